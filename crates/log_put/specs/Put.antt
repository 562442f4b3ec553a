-- What the contracts cite beside the definitions: items put behind what is written.
use Rattle.std.specs.Prelude.{ℕ, ◌+◌, ◌*◌, ◌/◌, ◌%◌, ◌^◌, ◌≤◌, ◌<◌, cond, ◌≡◌, refl, length}
use Rattle.std.proofs.Common.{arith, ap, sym, ◌∙◌, length-append}
use mathlib.Core.List.{List, [], ◌++◌, flat_map}
use Rattle.format.specs.Bits.{bits_of, bytes_bits}
use Rattle.format.specs.Laws.Bits.{length_bits, length_bytes}
use Rattle.format.specs.Item.{item_bits}
use Rattle.format.specs.Log.{Parsed, items, fault, on_no_plan}
use Rattle.format.specs.declared.Item.{Item}
use Rattle.log_rules.specs.Laws.Checking.{Walk}
use Rattle.log_rules.specs.Pick.{in_set, keep, on_buses}
use Rattle.log_walk.specs.Piece.{bus_in}
use Rattle.log_write.specs.Pen.{Wrote}
use Rattle.log_write.specs.declared.Packed.{Packed}
use Rattle.log_write.specs.declared.Pen.{Pen}
use Rattle.log_put.specs.declared.Put.{Put}
use Rattle.log_put.specs.declared.Put.TheVariants.{All, Fault}

-- an item's two numbers, within their widths
pub record Fits (k : Packed) : Type 0 where
  pub first_low : k.first < 2 ^ k.first_bits
  pub first_many : 18 ≤ k.first_bits
  pub first_few : k.first_bits ≤ 43
  pub behind_low : k.behind < 2 ^ k.behind_bits
  pub behind_few : k.behind_bits ≤ 46

-- the bits that they say
abbrev pub packed_bits : Packed → List ℕ
packed_bits k = bits_of k.first_bits k.first ++ bits_of k.behind_bits k.behind

-- bits are put behind what was written: at most so many; the array stays as long
pub record Puts (new : List ℕ) (most : ℕ) (out : List ℕ) (p : Pen) (out' : List ℕ) (p' : Pen) : Type 0 where
  pub writes : (bits : List ℕ) → Wrote bits out p → Wrote (bits ++ new) out' p'
  pub few : p'.bits ≤ p.bits + most
  pub long : length out' ≡ length out

-- an item's bits
abbrev pub PutsPacked : Packed → List ℕ → Pen → List ℕ → Pen → Type 0
PutsPacked k out p out' p' = Puts (packed_bits k) (k.first_bits + k.behind_bits) out p out' p'

-- an item's bits if it is on the buses
abbrev pub PutsPicked : ℕ → Packed → List ℕ → Pen → List ℕ → Pen → Type 0
PutsPicked set k out p out' p' = Puts (cond (in_set set (bus_in k)) (packed_bits k) []) (k.first_bits + k.behind_bits) out p out' p'

-- the items of a log so far, each of them good, and those on the buses put
pub record Picking (log : List ℕ) (set : ℕ) (out : List ℕ) (place : ℕ) (p : Pen) : Type 0 where
  pub past : List Item
  pub walk : Walk on_no_plan log past place
  pub wrote : Wrote (flat_map item_bits (keep (on_buses set) past)) out p
  pub few : p.bits ≤ place

-- a log's items on the buses stand in the array, of at most so many bits; or its fault
abbrev pub Told : Parsed → ℕ → ℕ → List ℕ → Put → Type 0
Told (items is) set most out r =
    (p : Pen) × (r ≡ All p) × (most ≤ 262144) × (p.bits ≤ most) × Wrote (flat_map item_bits (keep (on_buses set) is)) out p
Told (fault n q) set most out r = r ≡ Fault n q

-- ---- one answer

written : {bits out : List ℕ} {p : Pen} → Wrote bits out p → length bits ≡ p.bits
written {bits} {out} {p} w =
    ap length w.is ∙ length-append (bytes_bits w.bytes) (bits_of (p.bits % 8) p.last)
    ∙ rw (length_bytes w.bytes, length_bits (p.bits % 8) p.last, w.size) (omega arith)

-- the same fault, or as many bits put
abbrev pub SameTold : Put → Put → Type 0
SameTold (All p) (All q) = p.bits ≡ q.bits
SameTold (All p) (Fault n k) = ⊥
SameTold (Fault n k) (All q) = ⊥
SameTold (Fault n k) (Fault m j) = (n ≡ m) × (k ≡ j)

same_fault : (r r' : Put) (n k : ℕ) → r ≡ Fault n k → r' ≡ Fault n k → SameTold r r'
same_fault r r' n k t u = rw (t, u) (refl, refl)

-- two answers name the same fault, or have put as many bits, which are the items' bits
pub told_one : (row : Parsed) (set most : ℕ) (a b : List ℕ) (r r' : Put) → Told row set most a r → Told row set most b r' → SameTold r r'
told_one (items is) set most a b r r' (q, e, h, f, x) (q', e', h', f', x') = rw (e, e') (sym (written x) ∙ written x')
told_one (fault n k) set most a b r r' t u = same_fault r r' n k t u
