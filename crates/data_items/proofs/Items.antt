-- Items that were finished, and what a word starts, which does not look back.
use Prim.Native.Nat.{ℕ, ◌+◌, ◌*◌, ◌/◌, ◌%◌, ◌^◌}
use native.Mathlib.Omega.{arith}
use mathlib.Core.Bool.{Bool, true, false, cond, ◌&&◌}
use mathlib.Core.Path.{◌≡◌, refl, sym, ap, ◌∙◌}
use mathlib.Core.List.{List, [], ◌∷◌, ◌++◌}
use lib.Dec.{eqb}
use borrow.Author.Tests.{eq-eqb, eqb-true}
use Rattle.format.specs.Time.{below_tick}
use Rattle.format.specs.Plan.{kind_on}
use Rattle.format.specs.Reader.{Fed, bad, fed, Ran, more, join, feed, since, starts, after, with_tag, base_bus, is_high, is_pair}
use Rattle.format.specs.declared.Kind.{Kind}
use Rattle.format.specs.declared.Kind.TheVariants.{Unused, Mil1553, Arinc429}
use Rattle.format.specs.declared.Item.{Item}
use Rattle.format.specs.declared.Base.{Base}
use Rattle.format.specs.declared.Held.{Held}
use Rattle.format.specs.declared.Held.TheVariants.{Nothing, Taggable}
use Rattle.format.specs.declared.Tag.TheVariants.{Untagged}
use Rattle.format.specs.Laws.Tests.{and_true}
use Rattle.data_start.specs.declared.Holding.{Holding}
use Rattle.data_word.specs.Holding.{held_of}
use Rattle.format.proofs.Laws.Reader.Onward.{more_more}
pub use Rattle.data_items.proofs.Words.{yes_or_no}

-- nothing is held where nothing is awaited
pub held_none : (h : Holding) → h.awaits ≡ 0 → held_of h ≡ Nothing
unfolding held_of
held_none h e = rw (eq-eqb h.awaits 0 e) refl

-- ---- what a word starts does not look back

abbrev Fresh : Fed → Type 0
Fresh bad = Unit {0}
Fresh (fed is h) = (q r here : ℕ) → since h q here ≡ since h r here

fresh_cond : (b : Bool) (f g : Fed) → Fresh f → Fresh g → Fresh (cond b f g)
fresh_cond true f g x y = x
fresh_cond false f g x y = y

starts_fresh : (k : Kind) (bus label info : ℕ) → Fresh (starts k bus label info)
unfolding starts
starts_fresh Unused bus label info = tt
starts_fresh Mil1553 bus label info =
    fresh_cond (eqb label 15) _ _ (λ q r here. refl)
    (fresh_cond (eqb label 11) _ _ (λ q r here. refl)
    (fresh_cond (eqb label 14) _ _ (λ q r here. refl)
    (fresh_cond (eqb label 10) _ _ (λ q r here. refl)
    (fresh_cond (eqb label 13) _ _ (λ q r here. refl)
    (fresh_cond (eqb label 9) _ _ (λ q r here. refl)
    (fresh_cond (eqb label 12) _ _ (λ q r here. refl)
    (fresh_cond (eqb label 8) _ _ (λ q r here. refl)
    (fresh_cond (eqb label 4) _ _ (fresh_cond (below_tick info) _ _ (λ q r here. refl) tt)
    (fresh_cond (eqb label 3) _ _ (λ q r here. refl)
    (fresh_cond (eqb label 2) _ _ (λ q r here. refl)
    (fresh_cond (eqb label 0) _ _ (λ q r here. refl) tt)))))))))))
starts_fresh Arinc429 bus label info =
    fresh_cond (is_high label) _ _ (λ q r here. refl)
    (fresh_cond (eqb label 4) _ _ (fresh_cond (is_pair (info / 2 ^ 12) (info / 2 ^ 8 % 16)) _ _ (λ q r here. refl) tt)
    (fresh_cond (eqb label 3) _ _ (λ q r here. refl)
    (fresh_cond (eqb label 2) _ _ (λ q r here. refl)
    (fresh_cond (eqb label 0) _ _ (λ q r here. refl) tt))))

join_after : (i : Item) (f : Fed) (q r second here : ℕ) (go : Held → ℕ → Ran) → Fresh f
    → join (after i f) q second here go ≡ more (i ∷ []) (join f r second here go)
join_after i bad q r second here go x = refl
join_after i (fed is h) q r second here go x = ap (λ (k : ℕ). more (i ∷ is) (go h k)) (x q r here) ∙ sym (more_more (i ∷ []) is (go h (since h r here)))

no_tag : (label bus b : ℕ) → (b * 16 + 7 ≡ bus * 16 + label → ⊥) → (eqb label 7 && eqb bus b) ≡ false
no_tag label bus b n =
    yes_or_no (eqb label 7 && eqb bus b)
    (λ e.
    let h = and_true (eqb label 7) (eqb bus b) e in
    let u : label ≡ 7 = eqb-true label 7 h.0 in
    let v : bus ≡ b = eqb-true bus b h.1 in
    absurd (n (omega arith)))
    (λ e. e)

-- a command or an ARINC word is finished where the next word is not its tag; if that is bad, it broke nothing
pub flushed : (ks : List Kind) (x : Base) (bus label info q r second here : ℕ) (go : Held → ℕ → Ran) → (base_bus x * 16 + 7 ≡ bus * 16 + label → ⊥)
    → join (feed ks (Taggable x) bus label info) q second here go ≡ more (with_tag x Untagged ∷ []) (join (feed ks Nothing bus label info) r second here go)
unfolding feed
flushed ks x bus label info q r second here go n =
    rw (no_tag label bus (base_bus x) n) (join_after (with_tag x Untagged) (starts (kind_on ks bus) bus label info) q r second here go
    (starts_fresh (kind_on ks bus) bus label info))
