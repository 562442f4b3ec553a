-- The refusals behind the words, and the log handed over.
use Prim.Native.Nat.{ℕ, ◌+◌, ◌*◌, ◌-◌, ◌/◌, ◌^◌, ◌≤◌, ◌<◌}
use native.Mathlib.Omega.{arith}
use mathlib.Core.Bool.{Bool, true, false, cond, ◌&&◌}
use mathlib.Core.Path.{◌≡◌, refl, ap, sym, subst, ◌∙◌}
use mathlib.Core.List.{List, [], ◌∷◌}
use lib.ListN.{length, get_or}
use lib.Dec.{leb}
use borrow.Author.Tests.{le-leb, lt-leb, ne_eqb}
use Rattle.format.specs.Answer.{Made, refusal}
use Rattle.format.specs.Compose.{made, refused}
use Rattle.format.specs.Group.{Fault, none, found}
use Rattle.format.specs.Log.{log_of}
use Rattle.format.specs.Notices.{first_open, first_word_of, open_fault}
use Rattle.format.specs.Plan.{legal}
use Rattle.format.specs.Reader.{Slot, counted, places_of, run, Ran}
use Rattle.format.specs.Read.{Reading, Got, gives, refuses, got, stopped, onward, finish, unless_found}
use Rattle.format.proofs.Laws.Accepted.Together.{data_all}
use Rattle.format.specs.Laws.Reader.Slots.{words_in}
use Rattle.format.proofs.Laws.Reader.Words.{parts_said}
use Rattle.format.specs.Lists.{All}
use Rattle.format.specs.declared.Answer.{Answer}
use Rattle.format.specs.declared.Kind.{Kind}
use Rattle.format.specs.declared.Item.{Item}
use Rattle.format.specs.declared.Held.TheVariants.{Nothing}
use Rattle.format.specs.declared.Plan.{Plan}
use Rattle.capture_rules.specs.Split.{items_read, items_settled, log_roomed}
use Rattle.capture_rules.specs.Laws.Split.Places.{run_numbers_lem}
use Rattle.capture_rules.proofs.Laws.Split.Whole.{counted_small}
use Rattle.log_close.specs.Made.{Closable}
use Rattle.log_rules.specs.Pick.{log_in}
use Rattle.log_write.specs.Pen.{closed_size}
use Rattle.notices.specs.Roles.{open_row, roles_in}
use Rattle.notices.specs.Laws.Capture.{told15, up_fault}
use Rattle.notices.specs.Laws.Rows.{open_most}
use Rattle.notices.specs.Laws.Words.{slots_open}
use Rattle.split_items.specs.declared.Run.{Run}
use Rattle.split_items.specs.Items.{GivenLog, Logged, Room, got_of, items_of}
use Rattle.split_items.proofs.Numbers.{words_all}

pub log_refused : {g : Reading} {r : Answer} {number place second : ℕ} (log : List ℕ) → g ≡ refuses number place second → r ≡ refusal number place second
    → GivenLog g r log log
log_refused {g} {r} log e a = subst (λ (x : Reading). GivenLog x r log log) (sym e) (a, refl)

-- ---- "15, 6"

words_counted : (n : ℕ) (ws : List ℕ) → words_in (counted n ws) ≡ ws
unfolding counted
words_counted n [] = refl
words_counted n (w ∷ ws) = ap (λ (l : List ℕ). w ∷ l) (words_counted (n + 1) ws)

module _ (ks : List Kind) (parity : Bool) (ws : List ℕ) (log_room : ℕ) where
  pub stops_settled : {k q s : ℕ} → got_of ks parity ws ≡ stopped k q s → items_of ks parity ws log_room ≡ refuses k q s
  stops_settled e = ap (items_settled log_room (counted 0 ws)) e

  module _ {k : Run} {out : List ℕ} (l : Logged ks parity ws k out) where
    low : All (λ w. w < 2 ^ 24) ws
    low = words_all ws l.words

    plain_got : onward (run ks parity (counted 0 ws) Nothing 0) finish ≡ got l.items
    plain_got = ap (λ (r : Ran). onward r finish) (sym (run_numbers_lem ks parity (counted 0 ws) (counted_small 0 ws low) Nothing 0)) ∙ l.is

    -- the earliest open notice, by its number
    open_is : open_fault (first_word_of (places_of (counted 0 ws)) l.items) l.items ≡ told15 (open_row (roles_in ks parity (counted 0 ws)))
    open_is =
        let a = parts_said ks parity (counted 0 ws) (data_all (counted 0 ws) (rw (words_counted 0 ws) low)) 0 l.items plain_got in
        up_fault (first_word_of (places_of (counted 0 ws)) l.items) (first_open l.items) (length l.items)
        ∙ ap told15 (sym (slots_open ks parity (counted 0 ws) l.items a.1 a.0))

    abbrev settled : Fault → Reading
    settled f = unless_found f (log_roomed log_room (log_of l.items))

    log_is : items_of ks parity ws log_room ≡ settled (told15 (open_row (roles_in ks parity (counted 0 ws))))
    log_is = ap (items_settled log_room (counted 0 ws)) l.is ∙ ap settled open_is

    module _ {n : ℕ} (o : n ≡ open_row (roles_in ks parity (counted 0 ws))) where
      pub open_settled : (n ≡ 0 → ⊥) → items_of ks parity ws log_room ≡ refuses 15 (n - 1) 0
      open_settled d = log_is ∙ ap (λ (m : ℕ). settled (told15 m)) (sym o) ∙ rw (ne_eqb n 0 d) refl

      pub log_settled : n ≡ 0 → items_of ks parity ws log_room ≡ log_roomed log_room (log_of l.items)
      log_settled e = log_is ∙ ap (λ (m : ℕ). settled (told15 m)) (sym o ∙ e)

-- the array has room for it
pub log_closable : (ks : List Kind) (parity : Bool) (ws : List ℕ) {k : Run} {out : List ℕ} (l : Logged ks parity ws k out) (built : ℕ)
    → length ws ≤ 349525 → Room (length ws) built → Closable k.pen built
unfolding closed_size
log_closable ks parity ws {k} l built h r = (omega (arith, l.few), λ z. r ((k.pen.bits + 11) / 8) (omega (arith, l.few)) z)

-- the log, as composing's answers tell of it
pub log_given : (room : ℕ) (is : List Item) (r : Answer) (out out' : List ℕ) → Made (log_in room is) r out out' → GivenLog (log_roomed room (log_of is)) r out out'
log_given room is r out out' = go (leb (length (log_of is)) 32768 && leb (length (log_of is)) room)
  where
    go : (b : Bool) → Made (cond b (made (log_of is)) (refused 6 (length (log_of is)))) r out out'
        → GivenLog (cond b (gives (log_of is) []) (refuses 6 (length (log_of is)) 0)) r out out'
    go true m = m
    go false m = m

-- ---- "1, 8 for more than 349,525 words (their number)"

module _ (p : Plan) (ks : List Kind) (ws : List ℕ) (log_room : ℕ) where
  pub illegal_refused : legal p ks ≡ false → items_read p ks ws log_room ≡ refuses 1 0 0
  unfolding items_read
  illegal_refused e = rw e refl

  pub many_refused : legal p ks ≡ true → 349525 < length ws → items_read p ks ws log_room ≡ refuses 8 (length ws) 0
  unfolding items_read
  many_refused e h = rw (e, lt-leb (length ws) 349525 h) refl

  pub read_on : legal p ks ≡ true → length ws ≤ 349525 → items_read p ks ws log_room ≡ items_of ks p.parity ws log_room
  unfolding items_read
  read_on e h = rw (e, le-leb (length ws) 349525 h) refl
