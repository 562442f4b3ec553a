-- A plan, kinds and times as they cross from C (document 01, "Programs"): numbers and byte runs.
use Rattle.std.specs.Prelude.{ℕ, ◌+◌, ◌*◌, ◌/◌, ◌%◌, ◌^◌, Bool, true, false, cond, ◌&&◌, List, [], ◌∷◌, length, get_or, eqb, leb}
use Rattle.format.specs.Lists.{list}
use Rattle.format.specs.declared.Kind.{Kind}
use Rattle.format.specs.declared.Kind.TheVariants.{Unused, Mil1553, Arinc429}
use Rattle.format.specs.declared.Plan.{Plan}

-- "each unused, 1553 or ARINC": 0, 1 and 2
abbrev pub kind_of : ℕ → Kind
kind_of n = cond (eqb n 1) Mil1553 (cond (eqb n 2) Arinc429 Unused)

unfoldable pub are_kinds : List ℕ → Bool
are_kinds [] = true
are_kinds (n ∷ ns) = leb n 2 && are_kinds ns

-- "Three yes/no choices": 0 and 1
abbrev pub is_choice : ℕ → Bool
is_choice n = leb n 1

-- "A plan number that names no choice or kind is 1."
abbrev pub named : ℕ → ℕ → ℕ → List ℕ → Bool
named time crc parity kinds = is_choice time && (is_choice crc && (is_choice parity && (eqb (length kinds) 16 && are_kinds kinds)))

-- seven numbers: frame length, tracks, the three choices, "the CRC word's label .. and the fill bus code" (document 02, K5)
abbrev pub plan_from : ℕ → ℕ → ℕ → ℕ → ℕ → ℕ → ℕ → Plan
plan_from words tracks time crc parity label code = record {
  words = words;
  tracks = tracks;
  frame_time = eqb time 1;
  crc = eqb crc 1;
  parity = eqb parity 1;
  crc_label = label;
  fill_bus = code;
}

-- the number that the four bytes from `at` on say, most significant first
unfoldable pub half_at : List ℕ → ℕ → ℕ
half_at s at = get_or s at 0 * 2 ^ 24 + get_or s (at + 1) 0 * 2 ^ 16 + get_or s (at + 2) 0 * 2 ^ 8 + get_or s (at + 3) 0

-- "a frame time crossing as eight bytes, most significant first"
unfoldable pub time_at : List ℕ → ℕ → ℕ
time_at s at = half_at s at * 2 ^ 32 + half_at s (at + 4)

-- the times of a run of whole eights
abbrev pub times_from : List ℕ → List ℕ
times_from s = list (λ i. time_at s (8 * i)) 0 (length s / 8)

-- a number as eight bytes
unfoldable pub time_bytes : ℕ → List ℕ
time_bytes t =
    t / 2 ^ 56 % 256 ∷ t / 2 ^ 48 % 256 ∷ t / 2 ^ 40 % 256 ∷ t / 2 ^ 32 % 256 ∷ t / 2 ^ 24 % 256 ∷ t / 2 ^ 16 % 256 ∷ t / 2 ^ 8 % 256 ∷ t % 256 ∷ []
