-- A run does not mind how its slots are told: by their stored places, or by their numbers among the data words.
use Prim.Native.Nat.{ℕ, zero, suc, ◌+◌, ◌*◌, ◌/◌, ◌%◌, ◌^◌, ◌≤◌, ◌<◌}
use Rattle.std.proofs.Math.Nat.{mul-add-div_right, mul-add-mod_self_right, div-eq_of_lt, mod-eq_of_lt}
use native.Mathlib.Omega.{arith}
use Rattle.std.specs.Prelude.{Bool, true, false, cond, ◌≡◌, eqb}
use Rattle.std.proofs.Math.Path.{refl, sym}
use Rattle.std.proofs.Common.{ap, ap₂, ◌∙◌}
use mathlib.Core.List.{List, [], ◌∷◌, map}
use Rattle.format.specs.Word.{bus_of, label_of, info_of, is_fill, word_at}
use Rattle.format.specs.Time.{below_tick}
use Rattle.format.specs.Plan.{kind_on, lead, slots, group_words, place_of, stored_at}
use Rattle.format.specs.Lists.{list, All, nil, cons}
use Rattle.format.specs.Group.{group_fault, group_slots}
use Rattle.format.specs.Reader.{Fed, bad, fed, feed, starts, is_high, is_pair, run, Ran, bad_at, ran, since, begun, join, more, Slot, counted}
use Rattle.format.specs.Read.{Got, onward, before, if_sound, read_groups}
use Rattle.format.specs.Laws.Reader.Slots.{words_in}
use Rattle.format.specs.declared.Kind.{Kind}
use Rattle.format.specs.declared.Kind.TheVariants.{Unused, Mil1553, Arinc429}
use Rattle.format.specs.declared.Item.{Item}
use Rattle.format.specs.declared.Base.TheVariants as base
use Rattle.format.specs.declared.Held.{Held}
use Rattle.format.specs.declared.Held.TheVariants.{Nothing, Taggable, Half, TagHigh, TagLow, Answering}
use Rattle.format.specs.declared.Plan.{Plan}

-- ---- slots told otherwise

abbrev pub named : (ℕ → ℕ) → Slot → Slot
named f s = (f s.0, s.1)

abbrev pub renamed : (ℕ → ℕ) → Ran → Ran
renamed f (bad_at p q) = bad_at (f p) (f q)
renamed f (ran is h p) = ran is h (f p)

since_named : (f : ℕ → ℕ) (h : Held) (old here : ℕ) → since h (f old) (f here) ≡ f (since h old here)
since_named f Nothing old here = refl
since_named f (Taggable (base.Command bus b word)) old here = refl
since_named f (Taggable (base.Arinc bus c word)) old here = refl
since_named f (Half bus c high) old here = refl
since_named f (TagHigh x high) old here = refl
since_named f (TagLow x high low) old here = refl
since_named f (Answering bus r) old here = refl

begun_named : (f : ℕ → ℕ) (h : Held) (first here : ℕ) → begun h (f first) (f here) ≡ f (begun h first here)
begun_named f Nothing first here = refl
begun_named f (Taggable x) first here = refl
begun_named f (Half bus c high) first here = refl
begun_named f (TagHigh x high) first here = refl
begun_named f (TagLow x high low) first here = refl
begun_named f (Answering bus r) first here = refl

more_named : (f : ℕ → ℕ) (is : List Item) (r : Ran) → more is (renamed f r) ≡ renamed f (more is r)
more_named f is (bad_at p q) = refl
more_named f is (ran js h p) = refl

join_named : (f : ℕ → ℕ) (x : Fed) (old second here : ℕ) (go go' : Held → ℕ → Ran) → ((h : Held) (p : ℕ) → go' h (f p) ≡ renamed f (go h p))
    → join x (f old) (f second) (f here) go' ≡ renamed f (join x old second here go)
join_named f bad old second here go go' e = refl
join_named f (fed is h) old second here go go' e =
    ap (λ (p : ℕ). more is (go' h p)) (since_named f h old here) ∙ ap (more is) (e h (since h old here)) ∙ more_named f is (go h (since h old here))

pub run_named : (ks : List Kind) (parity : Bool) (f : ℕ → ℕ) (ss : List Slot) (h : Held) (p : ℕ)
    → run ks parity (map (named f) ss) h (f p) ≡ renamed f (run ks parity ss h p)
unfolding run
run_named ks parity f [] h p = refl
run_named ks parity f (s ∷ ss) h p = go (is_fill s.1) (run_named ks parity f ss)
  where
    x : Fed
    x = feed ks h (bus_of parity s.1) (label_of s.1) (info_of s.1)

    go : (t : Bool) → ((h' : Held) (p' : ℕ) → run ks parity (map (named f) ss) h' (f p') ≡ renamed f (run ks parity ss h' p'))
        → cond t (run ks parity (map (named f) ss) h (f p)) (join x (f p) (begun h (f p) (f s.0)) (f s.0) (λ h' p'. run ks parity (map (named f) ss) h' p'))
        ≡ renamed f (cond t (run ks parity ss h p) (join x p (begun h p s.0) s.0 (λ h' p'. run ks parity ss h' p')))
    go true ih = ih h p
    go false ih =
        ap (λ (q : ℕ). join x (f p) q (f s.0) (λ h' p'. run ks parity (map (named f) ss) h' p')) (begun_named f h p s.0)
        ∙ join_named f x p (begun h p s.0) s.0 (λ h' p'. run ks parity ss h' p') (λ h' p'. run ks parity (map (named f) ss) h' p') ih

-- ---- where nothing is held, its place does not matter

-- what a word starts is held from that word on
abbrev Fresh : ℕ → ℕ → ℕ → Fed → Type 0
Fresh p q here bad = Unit {0}
Fresh p q here (fed is h) = since h p here ≡ since h q here

fresh_if : (p q here : ℕ) (t : Bool) (a b : Fed) → Fresh p q here a → Fresh p q here b → Fresh p q here (cond t a b)
fresh_if p q here true a b x y = x
fresh_if p q here false a b x y = y

starts_fresh : (p q here : ℕ) (k : Kind) (bus label info : ℕ) → Fresh p q here (starts k bus label info)
unfolding starts
starts_fresh p q here Unused bus label info = tt
starts_fresh p q here Mil1553 bus label info =
    fresh_if p q here (eqb label 15) _ _ refl
    (fresh_if p q here (eqb label 11) _ _ refl
    (fresh_if p q here (eqb label 14) _ _ refl
    (fresh_if p q here (eqb label 10) _ _ refl
    (fresh_if p q here (eqb label 13) _ _ refl
    (fresh_if p q here (eqb label 9) _ _ refl
    (fresh_if p q here (eqb label 12) _ _ refl
    (fresh_if p q here (eqb label 8) _ _ refl
    (fresh_if p q here (eqb label 4) _ _ (fresh_if p q here (below_tick info) _ _ refl tt)
    (fresh_if p q here (eqb label 3) _ _ refl
    (fresh_if p q here (eqb label 2) _ _ refl
    (fresh_if p q here (eqb label 0) _ _ refl tt)))))))))))
starts_fresh p q here Arinc429 bus label info =
    fresh_if p q here (is_high label) _ _ refl
    (fresh_if p q here (eqb label 4) _ _ (fresh_if p q here (is_pair (info / 2 ^ 12) (info / 2 ^ 8 % 16)) _ _ refl tt)
    (fresh_if p q here (eqb label 3) _ _ refl
    (fresh_if p q here (eqb label 2) _ _ refl
    (fresh_if p q here (eqb label 0) _ _ refl tt))))

join_fresh : (p q second here : ℕ) (f : Fed) (go : Held → ℕ → Ran) → Fresh p q here f → join f p second here go ≡ join f q second here go
join_fresh p q second here bad go e = refl
join_fresh p q second here (fed is h) go e = ap (λ (m : ℕ). more is (go h m)) e

pub run_fresh : (ks : List Kind) (parity : Bool) (ss : List Slot) (k : Held → ℕ → Got) → ((a b : ℕ) → k Nothing a ≡ k Nothing b) → (p q : ℕ)
    → onward (run ks parity ss Nothing p) k ≡ onward (run ks parity ss Nothing q) k
unfolding run feed
run_fresh ks parity [] k e p q = ap (before []) (e p q)
run_fresh ks parity (s ∷ ss) k e p q = go (is_fill s.1) (run_fresh ks parity ss k e p q)
  where
    x : Fed
    x = starts (kind_on ks (bus_of parity s.1)) (bus_of parity s.1) (label_of s.1) (info_of s.1)

    go : (t : Bool) → onward (run ks parity ss Nothing p) k ≡ onward (run ks parity ss Nothing q) k
        → onward (cond t (run ks parity ss Nothing p) (join x p s.0 s.0 (λ h' p'. run ks parity ss h' p'))) k
        ≡ onward (cond t (run ks parity ss Nothing q) (join x q s.0 s.0 (λ h' p'. run ks parity ss h' p'))) k
    go true ih = ih
    go false ih =
        ap (λ (r : Ran). onward r k)
        (join_fresh p q s.0 s.0 x (λ h' p'. run ks parity ss h' p')
        (starts_fresh p q s.0 (kind_on ks (bus_of parity s.1)) (bus_of parity s.1) (label_of s.1) (info_of s.1)))

pub groups_fresh : (p : Plan) (ks : List Kind) (c : List ℕ) (n g a b : ℕ) → read_groups p ks c n g Nothing a ≡ read_groups p ks c n g Nothing b
unfolding read_groups
groups_fresh p ks c zero g a b = refl
groups_fresh p ks c (suc n) g a b =
    ap (if_sound (group_fault p c (g * group_words p)))
    (run_fresh ks p.parity (group_slots p c (g * group_words p)) (λ h' at'. read_groups p ks c n (g + 1) h' at') (groups_fresh p ks c n (g + 1)) a b)

-- ---- the places that a run tells of are those of its slots, and what it began with

abbrev pub RanIn : (ℕ → Type 0) → Ran → Type 0
RanIn P (bad_at q r) = P q × P r
RanIn P (ran is h q) = P q

since_in : (P : ℕ → Type 0) (h : Held) (old here : ℕ) → P old → P here → P (since h old here)
since_in P Nothing old here a b = b
since_in P (Taggable (base.Command bus c word)) old here a b = b
since_in P (Taggable (base.Arinc bus c word)) old here a b = a
since_in P (Half bus c high) old here a b = b
since_in P (TagHigh x high) old here a b = a
since_in P (TagLow x high low) old here a b = a
since_in P (Answering bus r) old here a b = b

begun_in : (P : ℕ → Type 0) (h : Held) (first here : ℕ) → P first → P here → P (begun h first here)
begun_in P Nothing first here a b = b
begun_in P (Taggable x) first here a b = b
begun_in P (Half bus c high) first here a b = a
begun_in P (TagHigh x high) first here a b = a
begun_in P (TagLow x high low) first here a b = a
begun_in P (Answering bus r) first here a b = a

more_in : (P : ℕ → Type 0) (is : List Item) (r : Ran) → RanIn P r → RanIn P (more is r)
more_in P is (bad_at q r) a = a
more_in P is (ran js h q) a = a

join_in : (P : ℕ → Type 0) (f : Fed) (old second here : ℕ) (go : Held → ℕ → Ran) → ((h : Held) (p : ℕ) → P p → RanIn P (go h p)) → P old → P second → P here
    → RanIn P (join f old second here go)
join_in P bad old second here go e a s b = (b, s)
join_in P (fed is h) old second here go e a s b = more_in P is (go h (since h old here)) (e h (since h old here) (since_in P h old here a b))

pub run_in : (ks : List Kind) (parity : Bool) (P : ℕ → Type 0) (ss : List Slot) → All (λ (s : Slot). P s.0) ss → (h : Held) (p : ℕ) → P p → RanIn P (run ks parity ss h p)
unfolding run
run_in ks parity P [] nil h p a = a
run_in ks parity P (s ∷ ss) (cons b all) h p a = go (is_fill s.1) (run_in ks parity P ss all)
  where
    x : Fed
    x = feed ks h (bus_of parity s.1) (label_of s.1) (info_of s.1)

    go : (t : Bool) → ((h' : Held) (p' : ℕ) → P p' → RanIn P (run ks parity ss h' p'))
        → RanIn P (cond t (run ks parity ss h p) (join x p (begun h p s.0) s.0 (λ h' p'. run ks parity ss h' p')))
    go true ih = ih h p a
    go false ih = join_in P x p (begun h p s.0) s.0 (λ h' p'. run ks parity ss h' p') ih a (begun_in P h p s.0 a b) b

-- ---- the words of a group's slots, told by their numbers among the data words of all groups

module _ (p : Plan) (c : List ℕ) (some : 1 ≤ slots p) where
  pub stored_is : (g i : ℕ) → i < slots p → stored_at p (g * slots p + i) ≡ g * group_words p + place_of p (lead p + i)
  unfolding stored_at
  stored_is g i l =
      let q : (g * slots p + i) / slots p ≡ g = mul-add-div_right some g i ∙ rw (div-eq_of_lt l) (omega arith) in
      let r : (g * slots p + i) % slots p ≡ i = mul-add-mod_self_right g (slots p) i ∙ mod-eq_of_lt l in
      rw (q, r)

  abbrev slot_at : ℕ → ℕ → Slot
  slot_at at s = (at + place_of p s, word_at c (at + place_of p s))

  list_counted : (g m k : ℕ) → k + m ≤ slots p
      → map (named (stored_at p)) (counted (g * slots p + k) (words_in (list (slot_at (g * group_words p)) (lead p + k) m))) ≡ list (slot_at (g * group_words p)) (lead p + k) m
  unfolding counted list
  list_counted g zero k h = refl
  list_counted g (suc m) k h =
      let a : g * slots p + k + 1 ≡ g * slots p + (k + 1) = omega arith in
      let b : lead p + k + 1 ≡ lead p + (k + 1) = omega arith in
      rw (a, b)
      (ap₂ (λ (q : ℕ) (l : List Slot). (q, word_at c (g * group_words p + place_of p (lead p + k))) ∷ l) (stored_is g k (omega arith)) (list_counted g m (k + 1) (omega arith)))

  pub slots_counted : (g : ℕ) → group_slots p c (g * group_words p) ≡ map (named (stored_at p)) (counted (g * slots p) (words_in (group_slots p c (g * group_words p))))
  unfolding group_slots
  slots_counted g =
      let z : lead p + 0 ≡ lead p = omega arith in
      let y : g * slots p + 0 ≡ g * slots p = omega arith in
      sym (rw (z, y) at (list_counted g (slots p) 0 (omega arith)))
