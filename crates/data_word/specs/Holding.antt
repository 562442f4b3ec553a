-- What three numbers hold.
use Rattle.std.specs.Prelude.{◌/◌, ◌%◌, ◌^◌, ◌-◌, ◌<◌, cond, ◌≡◌, ltb, leb, eqb}
use Rattle.format.specs.declared.Base.{Base}
use Rattle.format.specs.declared.Base.TheVariants as base
use Rattle.format.specs.declared.Held.{Held}
use Rattle.format.specs.declared.Held.TheVariants.{Nothing, Taggable, Half, TagHigh, TagLow, Answering}
use Rattle.data_start.specs.declared.Holding.{Holding}
use Rattle.data_start.specs.Holding.{flat}

-- what a flat form holds; a command's 26 bits are less than 2 ^ 32, an ARINC word's 43 are not
abbrev pub base_of : Holding → Base
base_of g =
    cond (ltb g.base (2 ^ 32)) (base.Command (g.awaits / 16) (eqb (g.base / 2 ^ 17 % 2) 1) (g.base % 2 ^ 16))
    (base.Arinc (g.awaits / 16) (g.base / 2 ^ 33 % 4) (g.base % 2 ^ 32))

unfoldable pub held_of : Holding → Held
held_of g =
    cond (eqb g.awaits 0) Nothing
    (cond (leb 256 g.awaits) (Answering (g.awaits / 16 % 16) g.time)
    (cond (eqb (g.awaits % 16) 7) (Taggable (base_of g))
    (cond (eqb (g.awaits % 16) 6) (TagHigh (base_of g) g.time)
    (cond (eqb (g.awaits % 16) 5) (TagLow (base_of g) (g.time / 2 ^ 16) (g.time % 2 ^ 16))
    (Half (g.awaits / 16) ((g.awaits % 16 - 8) / 2) (g.base % 2 ^ 16))))))

-- what is held fits its fields in the log
abbrev pub BaseFits : Base → Type 0
BaseFits (base.Command bus b word) = (bus < 16) × (word < 2 ^ 16)
BaseFits (base.Arinc bus c word) = (bus < 16) × (c < 4) × (word < 2 ^ 32)

abbrev pub Fits : Held → Type 0
Fits Nothing = Unit {0}
Fits (Taggable x) = BaseFits x
Fits (Half bus c high) = (bus < 16) × (c < 4) × (high < 2 ^ 16)
Fits (TagHigh x high) = BaseFits x × (high < 2 ^ 16)
Fits (TagLow x high low) = BaseFits x × (high < 2 ^ 16) × (low < 2 ^ 16)
Fits (Answering bus response) = (bus < 16) × (response < 10000)

-- the numbers are the flat form of what they hold
pub record Sane (g : Holding) : Type 0 where
  pub is : g ≡ flat (held_of g)
  pub fits : Fits (held_of g)
