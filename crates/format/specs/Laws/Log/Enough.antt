-- The number that bounds how many items a log can have is never reached.
use Rattle.std.specs.Prelude.{ℕ, zero, suc, ◌+◌, ◌*◌, ◌≤◌, ◌<◌, Bool, true, false, cond, ◌&&◌, ◌≡◌, refl, List, length, drop, leb, ltb}
use native.Mathlib.Omega.{arith}
use Rattle.std.proofs.Math.Dec.{eqb}
use Rattle.std.proofs.Common.{leb-true}
use Rattle.format.specs.Bits.{bytes_bits, num_of}
use Rattle.format.specs.Log.{Next, ends, has, wrong, field, flag, if_there, tagged, timed, item_at, end_at, next_at, parse_next, parse_from}
use Rattle.format.specs.Laws.Bits.{length_bytes}
use Rattle.format.specs.declared.Tag.{Tag}
use Rattle.format.specs.declared.Response.{Response}
use Rattle.format.specs.declared.Item.{Item}

-- an item is eight bits or more, and the bits of the log reach to its end
abbrev Onward : List ℕ → ℕ → Next → Type 0
Onward s p ends = Unit {0}
Onward s p (has i q) = (p + 8 ≤ q) × (q ≤ length s)
Onward s p wrong = Unit {0}

module _ (s : List ℕ) (p : ℕ) where
  on_either : (b : Bool) (x y : Next) → Onward s p x → Onward s p y → Onward s p (cond b x y)
  on_either true x y a b = a
  on_either false x y a b = b

  on_there : (e : ℕ) (x : Next) → (e ≤ length s → Onward s p x) → Onward s p (if_there s e x)
  on_there e x g = go (leb e (length s)) refl
    where
      go : (b : Bool) → leb e (length s) ≡ b → Onward s p (cond b x wrong)
      go true b = g (leb-true _ _ b)
      go false b = tt

  on_tagged : (b : Bool) (r : ℕ) (item : Tag → Item) → p + 8 ≤ r → r ≤ length s → Onward s p (tagged s b r item)
  on_tagged false r item h l = (h, l)
  on_tagged true r item h l = on_there (r + 46) _ (λ k. (omega arith, k))

  on_timed : (b : Bool) (r : ℕ) (item : Response → Item) → p + 8 ≤ r → r ≤ length s → Onward s p (timed s b r item)
  on_timed false r item h l = (h, l)
  on_timed true r item h l = on_there (r + 14) _ (λ k. (omega arith, k))

  on_item : (k : ℕ) → Onward s p (item_at s p k)
  unfolding item_at
  on_item k =
      on_either (eqb k 1) _ _ (on_there (p + 26) _ (λ h. on_tagged (flag s (p + 9)) (p + 26) _ (omega arith) h))
      (on_either (eqb k 2) _ _ (on_there (p + 26) _ (λ h. on_timed (flag s (p + 9)) (p + 26) _ (omega arith) h))
      (on_either (eqb k 3) _ _ (on_there (p + 25) _ (λ h. (omega arith, h)))
      (on_either (eqb k 4) _ _ (on_there (p + 25) _ (λ h. (omega arith, h)))
      (on_either (eqb k 5) _ _ (on_there (p + 43) _ (λ h. on_tagged (flag s (p + 10)) (p + 43) _ (omega arith) h))
      (on_either (eqb k 6) _ _ (on_there (p + 18) _ (λ h. (omega arith, h)))
      (on_either (eqb k 7) _ _ (on_there (p + 25) _ (λ h. (omega arith, h)))
      (on_either (eqb k 8) _ _ (on_there (p + 24) _ (λ h. (omega arith, h))) tt)))))))

  on_next : Onward s p (next_at s p)
  unfolding next_at
  on_next =
      on_there (p + 4) _ (λ h. on_either (eqb (field s p 4) 0) (end_at s p) (item_at s p (field s p 4))
      (on_either (ltb (length s) (p + 12) && eqb (num_of (drop (p + 4) s)) 0) ends wrong tt tt) (on_item (field s p 4)))

-- a bound that is large enough, and a larger one
enough : (check : Item → ℕ) (s : List ℕ) (n f p : ℕ) → p ≤ length s → length s < p + 8 * f → parse_from (f + n) check s p ≡ parse_from f check s p
unfolding parse_from
enough check s n zero p h l = absurd (omega arith)
enough check s n (suc f) p h l =
    let e : suc f + n ≡ suc (f + n) = omega arith in
    rw e (go (next_at s p) (on_next s p) (λ q k m. enough check s n f q k m))
  where
    go : (x : Next) → Onward s p x → ((q : ℕ) → q ≤ length s → length s < q + 8 * f → parse_from (f + n) check s q ≡ parse_from f check s q)
        → parse_next check p (parse_from (f + n) check s) x ≡ parse_next check p (parse_from f check s) x
    go ends o same = refl
    go (has i q) o same = rw (same q o.1 (omega (arith, o.0)))
    go wrong o same = refl

pub never_out : (check : Item → ℕ) (log : List ℕ) (n : ℕ)
    → parse_from (length log + 1 + n) check (bytes_bits log) 0 ≡ parse_from (length log + 1) check (bytes_bits log) 0
never_out check log n = enough check (bytes_bits log) n (length log + 1) 0 (omega arith) (omega (arith, length_bytes log))
