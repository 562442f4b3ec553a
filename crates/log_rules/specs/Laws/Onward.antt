-- What stands at a bit of a log: an item is as wide as its bits, eight or more, and ends within the log.
use Rattle.std.specs.Prelude.{ℕ, ◌+◌, ◌≤◌, Bool, true, false, cond, ◌&&◌, ◌≡◌, refl, List, length, drop, leb, ltb}
use native.Mathlib.Omega.{arith}
use Rattle.std.proofs.Math.Path.{ap}
use Rattle.std.proofs.Common.{sym, ◌∙◌, leb-true}
use Rattle.std.proofs.Math.Dec.{eqb}
use Rattle.format.specs.Bits.{num_of}
use Rattle.format.specs.Item.{item_fields, item_bits}
use Rattle.format.specs.Log.{Next, ends, has, wrong, field, flag, if_there, tagged, timed, item_at, end_at, next_at}
use Rattle.format.specs.Laws.Log.Fields.{size}
use Rattle.format.specs.Laws.Log.Sizes.{fields_length}
use Rattle.format.specs.declared.Time.{Time}
use Rattle.format.specs.declared.Tag.{Tag}
use Rattle.format.specs.declared.Tag.TheVariants.{Untagged, At}
use Rattle.format.specs.declared.Response.{Response}
use Rattle.format.specs.declared.Response.TheVariants.{Untimed, After}
use Rattle.format.specs.declared.Item.{Item}

abbrev pub Onward : List ℕ → ℕ → Next → Type 0
Onward s p ends = Unit {0}
Onward s p (has i q) = (p + 8 ≤ q) × (q ≤ length s) × (q ≡ p + length (item_bits i))
Onward s p wrong = Unit {0}

module _ (s : List ℕ) (p : ℕ) where
  -- by the fields' widths
  abbrev Wide : Next → Type 0
  Wide ends = Unit {0}
  Wide (has i q) = (p + 8 ≤ q) × (q ≤ length s) × (q ≡ p + size (item_fields i))
  Wide wrong = Unit {0}

  either : (b : Bool) (x y : Next) → Wide x → Wide y → Wide (cond b x y)
  either true x y a b = a
  either false x y a b = b

  there : (e : ℕ) (x : Next) → (e ≤ length s → Wide x) → Wide (if_there s e x)
  there e x g = go (leb e (length s)) refl
    where
      go : (b : Bool) → leb e (length s) ≡ b → Wide (cond b x wrong)
      go true b = g (leb-true _ _ b)
      go false b = tt

  with_tag : (b : Bool) (r : ℕ) (item : Tag → Item) → p + 8 ≤ r → r ≤ length s → r ≡ p + size (item_fields (item Untagged))
      → ((t : Time) → r + 46 ≡ p + size (item_fields (item (At t)))) → Wide (tagged s b r item)
  with_tag false r item h l e f = (h, l, e)
  with_tag true r item h l e f = there (r + 46) _ (λ k. (omega arith, k, f _))

  with_response : (b : Bool) (r : ℕ) (item : Response → Item) → p + 8 ≤ r → r ≤ length s → r ≡ p + size (item_fields (item Untimed))
      → ((t : ℕ) → r + 14 ≡ p + size (item_fields (item (After t)))) → Wide (timed s b r item)
  with_response false r item h l e f = (h, l, e)
  with_response true r item h l e f = there (r + 14) _ (λ k. (omega arith, k, f _))

  of_kind : (k : ℕ) → Wide (item_at s p k)
  unfolding item_at item_fields
  of_kind k =
      either (eqb k 1) _ _ (there (p + 26) _ (λ h. with_tag (flag s (p + 9)) (p + 26) _ (omega arith) h (omega arith) (λ (t : Time). omega arith)))
      (either (eqb k 2) _ _ (there (p + 26) _ (λ h. with_response (flag s (p + 9)) (p + 26) _ (omega arith) h (omega arith) (λ (t : ℕ). omega arith)))
      (either (eqb k 3) _ _ (there (p + 25) _ (λ h. (omega arith, h, omega arith)))
      (either (eqb k 4) _ _ (there (p + 25) _ (λ h. (omega arith, h, omega arith)))
      (either (eqb k 5) _ _ (there (p + 43) _ (λ h. with_tag (flag s (p + 10)) (p + 43) _ (omega arith) h (omega arith) (λ (t : Time). omega arith)))
      (either (eqb k 6) _ _ (there (p + 18) _ (λ h. (omega arith, h, omega arith)))
      (either (eqb k 7) _ _ (there (p + 25) _ (λ h. (omega arith, h, omega arith)))
      (either (eqb k 8) _ _ (there (p + 24) _ (λ h. (omega arith, h, omega arith))) tt)))))))

  at_bit : Wide (next_at s p)
  unfolding next_at
  at_bit =
      there (p + 4) _ (λ h. either (eqb (field s p 4) 0) (end_at s p) (item_at s p (field s p 4))
      (either (ltb (length s) (p + 12) && eqb (num_of (drop (p + 4) s)) 0) ends wrong tt tt) (of_kind (field s p 4)))

  pub onward : Onward s p (next_at s p)
  unfolding item_bits
  onward = go (next_at s p) at_bit
    where
      go : (x : Next) → Wide x → Onward s p x
      go ends o = tt
      go (has i q) o = (o.0, o.1, o.2 ∙ ap (λ (n : ℕ). p + n) (sym (fields_length (item_fields i))))
      go wrong o = tt
