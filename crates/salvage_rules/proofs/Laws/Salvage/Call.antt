-- What a salvage that gives a log went by (document 02, K10).
use Rattle.std.specs.Prelude.{ℕ, zero, suc, ◌+◌, ◌*◌, ◌/◌, ◌%◌, ◌≤◌, Bool, ◌&&◌, ◌≡◌, leb, eqb}
use Rattle.std.proofs.Common.{arith, ap, sym, ◌∙◌, leb-true}
use Rattle.std.proofs.Math.Bool.{true, false, cond}
use Rattle.std.proofs.Math.Path.{refl}
use mathlib.Core.List.{List, [], ◌∷◌, ◌++◌, map, flat_map}
use Rattle.std.proofs.Math.ListN.{length}
use Rattle.format.specs.Lists.{}
use Rattle.log_rules.specs.Pick.{keep}
use Rattle.format.specs.Item.{item_parts}
use Rattle.format.specs.Plan.{group_words, legal}
use Rattle.format.specs.Log.{log_of, parsed, items, on_plan}
use Rattle.format.specs.Word.{is_fill}
use Rattle.format.specs.Reader.{Slot}
use Rattle.format.specs.Group.{Fault, none, found, group_fault, group_time, group_slots}
use Rattle.salvage_rules.specs.Salvage.{Piece, gap, datum, data_pieces, group_pieces, pieces, kept_time, kept_times, Entry, lost_group, lost_word, Saved, Salvage, saves, forgoes, saved_in, salvage_groups, salvaged, entry_number}
use Rattle.format.specs.Laws.Tests.{and_true}
use Rattle.format.specs.Laws.Lists.{all_map}
use Rattle.format.specs.Laws.Log.Back.{log_back}
use Rattle.format.specs.Laws.Legal.{lawful_logged}
use Rattle.salvage_rules.proofs.Laws.Salvage.Account.{Dealt, done, kept, dropped, lost, Account, OnOneSide, one_side, say_of, slots_in, every_word}
use Rattle.salvage_rules.proofs.Laws.Salvage.Named.{entry_of, report_back}
use Rattle.salvage_rules.proofs.Laws.Salvage.Places.{unnamed, words_unnamed}
use Rattle.format.specs.declared.Kind.{Kind}
use Rattle.format.specs.declared.Plan.{Plan}
use Rattle.format.specs.declared.Item.{Item}

-- the log parses, under the plan, as the items whose words are the data words that the report does not name
pub record SalvageOf (p : Plan) (ks : List Kind) (c log times : List ℕ) (report : List Entry) : Type 0 where
  pub lawful : legal p ks ≡ true
  pub its : List Item
  pub parses : parsed (on_plan ks) log ≡ items its
  pub account : Account ks p.parity (pieces p c (length c / (3 * group_words p)) 0) (record { its = its; report = report })
  pub words : say_of p.parity (keep (unnamed report) (slots_in (pieces p c (length c / (3 * group_words p)) 0))) ≡ flat_map item_parts its
  pub kept_times_lem : cond p.frame_time (kept_times p c (length c / (3 * group_words p)) 0) [] ≡ times

-- no item has words on both sides of a dropped group: wherever one stands on the tape, the items of the log are those of the words before it
-- and then those of the words behind it, and so is the report (`OnOneSide`)
pub record Apart (p : Plan) (ks : List Kind) (c log : List ℕ) (report : List Entry) : Type 0 where
  pub its : List Item
  pub parses : parsed (on_plan ks) log ≡ items its
  pub sides : (ts us : List Piece) (k g : ℕ) → pieces p c (length c / (3 * group_words p)) 0 ≡ ts ++ gap k g ∷ us
      → OnOneSide ks p.parity ts k g us (record { its = its; report = report })

no_saves : {A : Type 0} {n q : ℕ} {log times : List ℕ} {report : List Entry} → forgoes n q ≡ saves log times report → A
no_saves e = let z : ◌≡◌ {A = ℕ} 0 1 = cc in absurd (omega arith)

same_saves : {a b c d : List ℕ} {r q : List Entry} → saves a b r ≡ saves c d q → (a ≡ c) × (b ≡ d) × (r ≡ q)
same_saves e = (cc, cc, cc)

module _ (p : Plan) (ks : List Kind) (c log times : List ℕ) (report : List Entry) (log_room time_room reportRoom : ℕ) (sixteen : length ks ≡ 16) where
  abbrev n : ℕ
  n = length c / (3 * group_words p)

  abbrev s : Saved
  s = salvage_groups p ks c n

  abbrev row : List ℕ
  row = cond p.frame_time (kept_times p c n 0) []

  -- what is given is what the groups come to
  pub record Given : Type 0 where
    pub lawful : legal p ks ≡ true
    pub sized : length c ≤ 1048576
    pub short : length (log_of s.its) ≤ 32768
    pub log_is : log_of s.its ≡ log
    pub times_are : row ≡ times
    pub report_is : s.report ≡ report

  pub given_by : salvaged p ks c log_room time_room reportRoom ≡ saves log times report → Given
  unfolding salvaged
  given_by e = go (legal p ks) refl e
    where
      told : legal p ks ≡ true → length c ≤ 1048576 → length (log_of s.its) ≤ 32768 → (b : Bool) → cond b (saves (log_of s.its) row s.report) (forgoes 20 (length s.report)) ≡ saves log times report → Given
      told l z h true e =
          let q = same_saves e in
          record { lawful = l; sized = z; short = h; log_is = q.0; times_are = q.1; report_is = q.2 }
      told l z h false e = no_saves e

      timed : legal p ks ≡ true → length c ≤ 1048576 → length (log_of s.its) ≤ 32768
          → (b : Bool) → cond b (cond (leb (length s.report) reportRoom) (saves (log_of s.its) row s.report) (forgoes 20 (length s.report))) (forgoes 7 (length row)) ≡ saves log times report → Given
      timed l z h true e = told l z h (leb (length s.report) reportRoom) e
      timed l z h false e = no_saves e

      fits : legal p ks ≡ true → length c ≤ 1048576 → (b : Bool) → (leb (length (log_of s.its)) 32768 && leb (length (log_of s.its)) log_room) ≡ b
          → cond b (cond (leb (length row) time_room) (cond (leb (length s.report) reportRoom) (saves (log_of s.its) row s.report) (forgoes 20 (length s.report))) (forgoes 7 (length row))) (forgoes 6 (length (log_of s.its))) ≡ saves log times report
          → Given
      fits l z true t e = timed l z (leb-true (length (log_of s.its)) 32768 (and_true (leb (length (log_of s.its)) 32768) (leb (length (log_of s.its)) log_room) t).0) (leb (length row) time_room) e
      fits l z false t e = no_saves e

      whole : legal p ks ≡ true → (b : Bool) → (leb (length c) 1048576 && eqb (length c % (3 * group_words p)) 0) ≡ b → cond b (saved_in log_room time_room reportRoom (log_of s.its) row s.report) (forgoes 8 (length c)) ≡ saves log times report → Given
      whole l true t e = fits l (leb-true (length c) 1048576 (and_true (leb (length c) 1048576) (eqb (length c % (3 * group_words p)) 0) t).0) (leb (length (log_of s.its)) 32768 && leb (length (log_of s.its)) log_room) refl e
      whole l false t e = no_saves e

      go : (b : Bool) → legal p ks ≡ b
          → cond b (cond (leb (length c) 1048576 && eqb (length c % (3 * group_words p)) 0) (saved_in log_room time_room reportRoom (log_of s.its) row s.report) (forgoes 8 (length c))) (forgoes 1 0) ≡ saves log times report
          → Given
      go true l e = whole l (leb (length c) 1048576 && eqb (length c % (3 * group_words p)) 0) refl e
      go false l e = no_saves e

  parses_back : Given → parsed (on_plan ks) log ≡ items s.its
  parses_back g = rw g.log_is at (log_back (on_plan ks) s.its (all_map (λ i w. lawful_logged ks sixteen i w) (every_word p ks c n).lawful) g.short)

  pub salvage_by : salvaged p ks c log_room time_room reportRoom ≡ saves log times report → SalvageOf p ks c log times report
  salvage_by e =
      let g = given_by e in
      record {
        lawful = g.lawful;
        its = s.its;
        parses = parses_back g;
        account = rw g.report_is at (every_word p ks c n);
        words = rw g.report_is at (words_unnamed p ks c n g.lawful);
        kept_times_lem = g.times_are;
      }

  -- the numbers of the report given say what it names
  pub named_by : salvaged p ks c log_room time_room reportRoom ≡ saves log times report → map entry_of (map entry_number report) ≡ report
  named_by e =
      let g = given_by e in
      rw g.report_is at (report_back p ks c g.lawful g.sized)

  -- the items of the log given and the report, at each dropped group
  pub apart_by : salvaged p ks c log_room time_room reportRoom ≡ saves log times report → Apart p ks c log report
  apart_by e =
      let g = given_by e in
      record {
        its = s.its;
        parses = parses_back g;
        sides = λ ts us k i t. rw (← t, g.report_is) at (one_side ks p.parity ts us k i);
      }

-- ---- "The time row has the kept groups only."

-- how many groups the report names
abbrev pub groups_named : List Entry → ℕ
groups_named [] = 0
groups_named (lost_group k g ∷ es) = groups_named es + 1
groups_named (lost_word q ∷ es) = groups_named es

abbrev gaps_in : List Piece → ℕ
gaps_in [] = 0
gaps_in (gap k g ∷ ts) = gaps_in ts + 1
gaps_in (datum t ∷ ts) = gaps_in ts

gaps_named : {ts : List Piece} {ss : List Slot} {es : List Entry} → Dealt ts ss es → groups_named es ≡ gaps_in ts
gaps_named done = refl
gaps_named (kept t d) = gaps_named d
gaps_named (dropped t d) = gaps_named d
gaps_named (lost k g d) = ap (λ (m : ℕ). m + 1) (gaps_named d)

data_gaps : (ss : List Slot) (us : List Piece) → gaps_in (data_pieces ss ++ us) ≡ gaps_in us
unfolding data_pieces
data_gaps [] us = refl
data_gaps (t ∷ ss) us = go (is_fill t.1) (data_gaps ss us)
  where
    go : (b : Bool) → gaps_in (data_pieces ss ++ us) ≡ gaps_in us → gaps_in (cond b (data_pieces ss) (datum t ∷ data_pieces ss) ++ us) ≡ gaps_in us
    go true e = e
    go false e = e

times_gaps : (p : Plan) (c : List ℕ) (n g : ℕ) → length (kept_times p c n g) + gaps_in (pieces p c n g) ≡ n
unfolding kept_times pieces
times_gaps p c zero g = refl
times_gaps p c (suc n) g = go (group_fault p c (g * group_words p)) (times_gaps p c n (g + 1))
  where
    go : (f : Fault) → length (kept_times p c n (g + 1)) + gaps_in (pieces p c n (g + 1)) ≡ n
        → length (kept_time f (group_time p c (g * group_words p)) ++ kept_times p c n (g + 1)) + gaps_in (group_pieces f g (group_slots p c (g * group_words p)) ++ pieces p c n (g + 1)) ≡ suc n
    go none e = rw (data_gaps (group_slots p c (g * group_words p)) (pieces p c n (g + 1))) (omega arith)
    go (found k q) e = omega arith

-- a time for each group that the report does not name
pub a_time_a_group : (p : Plan) (ks : List Kind) (c : List ℕ) (n : ℕ) → length (kept_times p c n 0) + groups_named (salvage_groups p ks c n).report ≡ n
a_time_a_group p ks c n = rw (gaps_named (every_word p ks c n).dealt) (times_gaps p c n 0)
