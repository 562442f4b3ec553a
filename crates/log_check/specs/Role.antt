-- What the code carries along of an item, and of the items before.
use Rattle.std.specs.Prelude.{ℕ, Bool, true, false, cond, ◌&&◌, not, eqb, leb}
use Rattle.format.specs.declared.Tag.{Tag}
use Rattle.format.specs.declared.Tag.TheVariants.{Untagged, At}
use Rattle.format.specs.declared.Response.{Response}
use Rattle.format.specs.declared.Response.TheVariants.{Untimed, After}
use Rattle.format.specs.declared.Item.{Item}
use Rattle.format.specs.declared.Item.TheVariants.{Command, Status, Data, BusError, Arinc, Notice, User, Overflow}
use Rattle.log_rules.specs.Profile.{tag_time}
use Rattle.log_check.specs.declared.Role.{Role}
use Rattle.log_check.specs.declared.Seen.{Seen}

abbrev pub plain_role : ℕ → ℕ → Role
plain_role bus kind = record { bus = bus; kind = kind; side = false; time = 0 }

abbrev pub command_role : ℕ → Bool → Tag → Role
command_role bus side Untagged = record { bus = bus; kind = 2; side = side; time = 0 }
command_role bus side (At t) = record { bus = bus; kind = 3; side = side; time = tag_time t }

abbrev pub status_role : ℕ → Response → Role
status_role bus Untimed = plain_role bus 1
status_role bus (After r) = plain_role bus 0

abbrev pub role_of : Item → Role
role_of (Command bus b tag word) = command_role bus b tag
role_of (Status bus b resp word) = status_role bus resp
role_of (Data bus b word) = plain_role bus 0
role_of (BusError bus b word) = plain_role bus 0
role_of (Arinc bus c tag word) = plain_role bus 1
role_of (Notice bus c diag) = plain_role bus 1
role_of (User bus three word) = plain_role bus 1
role_of (Overflow bus word) = plain_role bus 0

abbrev pub nothing_seen : Seen
nothing_seen = record { first = true; bus = 0; a = false; b = false; last = 0 }

abbrev pub keeps_by : Bool → Bool → ℕ → Role → Bool
keeps_by a b last r = cond (eqb r.kind 0) true (cond (eqb r.kind 1) false (cond (eqb r.kind 2) (cond r.side b a) (leb last r.time)))

abbrev pub passes_by : Seen → Role → Bool
passes_by s r = cond s.first true (eqb r.bus s.bus) && keeps_by s.a s.b s.last r

abbrev pub after_by : Seen → Role → Seen
after_by s r = record {
  first = false;
  bus = r.bus;
  a = cond (eqb r.kind 3) (not r.side) false;
  b = cond (eqb r.kind 3) r.side false;
  last = cond (eqb r.kind 3) r.time s.last;
}
