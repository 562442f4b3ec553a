-- What a step means in the log: the bits of the items that a word finished.
use Prim.Native.Nat.{ℕ, ◌+◌, ◌≤◌}
use native.Mathlib.Omega.{arith}
use mathlib.Core.Bool.{false}
use mathlib.Core.Path.{◌≡◌, sym, ap, subst, ◌∙◌}
use mathlib.Core.List.{List, ◌++◌, flat_map, append_assoc}
use lib.ListN.{length}
use Rattle.format.specs.Bits.{bits_of}
use Rattle.format.specs.Item.{item_bits}
use Rattle.format.specs.Reader.{Fed, bad, fed}
use Rattle.format.specs.declared.Item.{Item}
use Rattle.format.specs.declared.Held.{Held}
use Rattle.format.specs.Laws.Tests.{clash}
use Rattle.data_start.specs.declared.Step.{Step}
use Rattle.data_word.specs.Holding.{Sane}
use Rattle.data_word.specs.Meaning.{Means, Brings}
use Rattle.log_write.specs.declared.Pen.{Pen}
use Rattle.log_write.specs.Pen.{pen_put, pen_in, Wrote}
use Rattle.log_write.proofs.Writing.{put_bits, put_long, wrote_more}
use Rattle.data_put.specs.Put.{Strings, step_pen, step_out}

module _ (is : List Item) (h : Held) (r : Step) (b : Brings is h r) (w : Pen) where
  first_short : r.first_width ≤ 56
  first_short = omega (arith, b.first_short)

  second_short : r.second_width ≤ 56
  second_short = omega (arith, b.second_short)

  abbrev half : Pen
  half = pen_put w r.first r.first_width

  pub step_bits : (step_pen w r).bits ≤ w.bits + 92
  step_bits =
      omega (
        arith,
        b.first_short,
        b.second_short,
        put_bits w r.first r.first_width first_short b.first_fits,
        put_bits half r.second r.second_width second_short b.second_fits,
      )

  pub step_long : (out : List ℕ) → length (step_out out w r) ≡ length out
  step_long out =
      put_long half r.second r.second_width second_short b.second_fits (pen_in out w r.first r.first_width)
      ∙ put_long w r.first r.first_width first_short b.first_fits out

  pub step_wrote : (bits out : List ℕ) → Wrote bits out w → Wrote (bits ++ flat_map item_bits is) (step_out out w r) (step_pen w r)
  step_wrote bits out x =
      let a : List ℕ = bits_of r.first_width r.first in
      let z : List ℕ = bits_of r.second_width r.second in
      let y : Wrote ((bits ++ a) ++ z) (step_out out w r) (step_pen w r) =
      wrote_more half r.second r.second_width second_short b.second_fits (bits ++ a) (pen_in out w r.first r.first_width)
      (wrote_more w r.first r.first_width first_short b.first_fits bits out x) in
      subst (λ (n : List ℕ). Wrote n (step_out out w r) (step_pen w r)) (append_assoc bits a z ∙ ap (◌++◌ bits) b.bits) y

-- a step that is not bad has strings that fit, and what it holds is sound
pub fed_fits : (f : Fed) (r : Step) → Means f r → r.bad ≡ false → Strings r × Sane r.held
fed_fits bad r m z = clash (sym z ∙ m)
fed_fits (fed is h) r m z = (
  record { first_fits = m.first_fits; second_fits = m.second_fits; first_short = omega (arith, m.first_short); second_short = omega (arith, m.second_short) },
  m.sane,
)
