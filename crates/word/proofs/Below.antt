-- A word that is made of its fields, and sent, is below 2 ^ 24; with parity there are eight buses, else sixteen.
use Prim.Native.Nat.{ℕ, ◌+◌, ◌*◌, ◌^◌, ◌<◌}
use native.Mathlib.Omega.{arith}
use mathlib.Core.Bool.{Bool, true, false, cond}
use Rattle.format.specs.Word.{word_of, is_odd, sent}
use Rattle.format.specs.Lawful.{buses}

-- n is how many buses there are
pub word_below : (n bus label info : ℕ) → bus < n → label < 16 → info < 2 ^ 16 → word_of bus label info < n * 2 ^ 20
unfolding word_of
word_below n bus label info b l i = omega arith

pub buses_few : (parity : Bool) (bus : ℕ) → bus < buses parity → bus < 16
buses_few true bus h = omega arith
buses_few false bus h = h

pub unsent_below : (parity : Bool) (w : ℕ) → w < buses parity * 2 ^ 20 → w < 2 ^ 24
unsent_below true w h = omega arith
unsent_below false w h = h

pub sent_below : (parity : Bool) (w : ℕ) → w < buses parity * 2 ^ 20 → sent parity w < 2 ^ 24
unfolding sent
sent_below false w h = h
sent_below true w h = go (is_odd w)
  where
    go : (odd : Bool) → cond odd w (w + 2 ^ 23) < 2 ^ 24
    go true = omega arith
    go false = omega arith
