-- From group to group: what the code carries is what the definition salvages.
use Prim.Native.Nat.{ℕ, zero, suc, ◌+◌, ◌*◌, ◌-◌, ◌^◌, ◌<◌, ◌≤◌}
use native.Mathlib.Numerals.{add-one}
use native.Mathlib.Omega.{arith}
use mathlib.Core.Bool.{Bool, true, false, cond}
use mathlib.Core.Path.{◌≡◌, refl, sym, ap, ap₂, subst, ◌∙◌}
use mathlib.Core.List.{List, [], ◌∷◌, ◌++◌, map, flat_map, append_assoc, append-nil}
use lib.ListN.{length, take, get_or, length-map}
use Rattle.format.specs.Lists.{All, nil, cons}
use Rattle.format.specs.Item.{item_bits}
use Rattle.format.specs.Log.{log_of}
use Rattle.format.specs.Plan.{group_words, slots, stored_at}
use Rattle.format.specs.Reader.{Slot, counted}
use Rattle.format.specs.Group.{Fault, none, found, group_fault, group_time, group_slots}
use Rattle.format.specs.Laws.Limits.{Shape, free}
use Rattle.format.proofs.Laws.Reader.Named.{named, slots_counted}
use Rattle.format.specs.Laws.Reader.Slots.{words_in}
use Rattle.format.specs.declared.Kind.{Kind}
use Rattle.format.specs.declared.Plan.{Plan}
use Rattle.format.specs.declared.Item.{Item}
use Rattle.format.specs.declared.Held.{Held}
use Rattle.format.specs.declared.Held.TheVariants.{Nothing}
use Rattle.salvage_rules.specs.Salvage.{Piece, data_pieces, group_pieces, pieces, kept_time, kept_times, Entry, lost_word, Saved, first, finished, unfinished, salvage, salvage_groups, entry_number}
use Rattle.data_items.specs.Row.{Words}
use Rattle.data_word.specs.Holding.{held_of, Sane}
use Rattle.group_read.proofs.Answers.{words_low}
use Rattle.data_word.proofs.Flat.{nothing_is_held}
use Rattle.data_word.proofs.Meaning.{nothing_is_sane}
use Rattle.log_write.specs.declared.Pen.{Pen}
use Rattle.log_write.specs.Pen.{closed_in, closed_size, Wrote}
use Rattle.log_write.proofs.Writing.{wrote_none, closed_size_lem, closed_long, closed_log}
use Rattle.salvage_run.specs.declared.Pass.{Pass}
use Rattle.salvage_run.specs.Tape.{drop_group, held_places, laid, let_go, Low, on_row, put_all, put_at, Sound, start_pass, Tape, tape}
use Rattle.salvage_run.proofs.Sounds.{Grew, let_gone, low_more, places_few}
use Rattle.salvage_run.proofs.Went.{gap_salvaged, Laid, laid_more, laid_none, let_went, row_salvaged, Salvages, salvages_none, salvages_then, Went, went_then}
use Rattle.salvage_groups.specs.declared.Walk.{Walk}
use Rattle.salvage_groups.specs.Reel.{group_on, kept_count, kept_row, Moves, on_group, over_groups, Reel, reel, start_walk}
use Rattle.salvage_groups.specs.Tally.{Tallied, time_row}

-- ---- frame times

-- so many of them are known, and those of a group more
abbrev Timed : Plan → List ℕ → Reel → Reel → Type 0
Timed p ts r r' = (ns old : List ℕ) → Laid ns old r.row r.times → Laid (ns ++ cond p.frame_time ts []) old r'.row r'.times

timed_none : (p : Plan) (r : Reel) → Timed p [] r r
timed_none p r ns old l = go p.frame_time
  where
    go : (b : Bool) → Laid (ns ++ cond b [] []) old r.row r.times
    go true = subst (λ (k : List ℕ). Laid k old r.row r.times) (sym (append-nil ns)) l
    go false = subst (λ (k : List ℕ). Laid k old r.row r.times) (sym (append-nil ns)) l

timed_then : (p : Plan) (ts us : List ℕ) (r s t : Reel) → Timed p ts r s → Timed p us s t → Timed p (ts ++ us) r t
timed_then p ts us r s t a b ns old l =
    subst (λ (k : List ℕ). Laid k old t.row t.times) (append_assoc ns (cond p.frame_time ts []) (cond p.frame_time us []) ∙ ap (◌++◌ ns) (go p.frame_time))
    (b (ns ++ cond p.frame_time ts []) old (a ns old l))
  where
    go : (f : Bool) → cond f ts [] ++ cond f us [] ≡ cond f (ts ++ us) []
    go true = refl
    go false = refl

-- one more, in a row
one_more : (f : Bool) (ns old row : List ℕ) (n time : ℕ) → Laid ns old row n → Laid (ns ++ cond f (time ∷ []) []) old (cond f (put_at row n time) row) (cond f (n + 1) n)
unfolding put_all
one_more true ns old row n time l = laid_more ns old row n (time ∷ []) l
one_more false ns old row n time l = subst (λ (k : List ℕ). Laid k old row n) (sym (append-nil ns)) l

-- ---- groups

module _ (ks : List Kind) (p : Plan) (shape : Shape p) (c : List ℕ) (low : (i : ℕ) → get_or c i 0 < 2 ^ 8) where
  -- the words of a group
  abbrev words : ℕ → List ℕ
  words g = words_in (group_slots p c (g * group_words p))

  module _ (small : (g : ℕ) → All (λ w. w < 2 ^ 24) (words g)) where
    -- the group g, by its fault
    record Grouped (g : ℕ) (f : Fault) (r r' : Reel) : Type 0 where
      pub tape : Salvages ks p (group_pieces f g (group_slots p c (g * group_words p))) r.words r'.words
      pub times : Timed p (kept_time f (group_time p c (g * group_words p))) r r'

    grouped_by : (g : ℕ) (f : Fault) (r : Reel) → Sane r.words.pass.held → Grouped g f r (group_on f ks p c g r)
    grouped_by g none r s = record {
      tape = subst (λ (ss : List Slot). Salvages ks p (data_pieces ss) r.words (on_row ks p (g * slots p) (words g) r.words)) (sym (slots_counted p c (free p shape) g))
          (row_salvaged ks p (g * slots p) (words g) (small g) r.words s);
      times = λ ns old l. one_more p.frame_time ns old r.row r.times (group_time p c (g * group_words p)) l;
    }
    grouped_by g (found k q) r s = record { tape = gap_salvaged ks p k g r.words; times = timed_none p (group_on (found k q) ks p c g r) }

    pub record Grouped-all (n g : ℕ) (r r' : Reel) : Type 0 where
      pub tape : Salvages ks p (pieces p c n g) r.words r'.words
      pub times : Timed p (kept_times p c n g) r r'

    pub groups_salvaged : (n g : ℕ) (r : Reel) → Sane r.words.pass.held → Grouped-all n g r (over_groups ks p c n g r)
    unfolding over_groups on_group pieces kept_times
    groups_salvaged zero g r s = record { tape = salvages_none ks p r.words s; times = timed_none p r }
    groups_salvaged (suc n) g r s =
        let f : Fault = group_fault p c (g * group_words p) in
        let r' : Reel = group_on f ks p c g r in
        let a = grouped_by g f r s in
        let b = groups_salvaged n (g + 1) r' a.tape.went.sane in
        record {
          tape = salvages_then ks p a.tape b.tape;
          times = timed_then p (kept_time f (group_time p c (g * group_words p))) (kept_times p c n (g + 1)) r r' (over_groups ks p c n (g + 1) r') a.times b.times;
        }

-- ---- the end of the tape

all_words : (ws : List ℕ) → Words ws → All (λ w. w < 2 ^ 24) ws
all_words [] h = nil
all_words (w ∷ ws) h = cons (h 0 (omega arith)) (all_words ws (λ i l. h (suc i) (omega arith)))

module _ (ks : List Kind) (p : Plan) (shape : Shape p) (c : List ℕ) (low : (i : ℕ) → get_or c i 0 < 2 ^ 8) (n : ℕ) (out times report : List ℕ) where
  abbrev begin : Reel
  begin = reel start_walk out times report

  abbrev whole : Saved
  whole = salvage_groups p ks c n

  abbrev done : Reel
  done = over_groups ks p c n 0 begin

  abbrev closing : Tape
  closing = let_go p done.words

  all_groups : Grouped-all ks p shape c low (λ g. all_words (words_in (group_slots p c (g * group_words p))) (words_low p c (g * group_words p) low)) n 0 begin done
  all_groups = groups_salvaged ks p shape c low (λ g. all_words (words_in (group_slots p c (g * group_words p))) (words_low p c (g * group_words p) low)) n 0 begin nothing_is_sane

  held : Held
  held = held_of done.words.pass.held

  ends : Saved
  ends = record { its = finished held; report = map lost_word (unfinished held (held_places p done.words.pass)) }

  whole_is : whole ≡ first all_groups.tape.its all_groups.tape.report ends
  unfolding salvage held ends
  whole_is =
      ap (λ (h : Held). salvage ks p.parity (pieces p c n 0) h []) (sym nothing_is_held)
      ∙ ap (λ (qs : List ℕ). salvage ks p.parity (pieces p c n 0) (held_of start_pass.held) qs) (sym none_held)
      ∙ ap (λ (l : List Piece). salvage ks p.parity l (held_of start_pass.held) (held_places p start_pass)) (sym (append-nil (pieces p c n 0)))
      ∙ all_groups.tape.is []
    where
      none_held : held_places p start_pass ≡ []
      none_held = rw nothing_is_held refl

  whole_went : Went whole.its whole.report begin.words closing
  unfolding held ends
  whole_went =
      subst (λ (s : Saved). Went s.its s.report begin.words closing) (sym whole_is)
      (went_then all_groups.tape.went (let_went p done.words all_groups.tape.went.sane))

  whole_wrote : Wrote (flat_map item_bits whole.its) closing.out closing.pass.pen
  whole_wrote = whole_went.wrote [] (wrote_none out)

  pub whole_report : Laid (map entry_number whole.report) report closing.report closing.pass.entries
  whole_report = whole_went.lays [] report (laid_none report)

  pub whole_times : Laid (time_row p c n) times done.row done.times
  whole_times = all_groups.times [] times (laid_none times)

  pub whole_long : length closing.out ≡ length out
  whole_long = whole_went.long

  -- as the code has it
  pub tallied : {r : Walk} {y : Pass} {out₁ out₂ out₃ times' report₁ report' : List ℕ} {bytes : ℕ} → reel r out₁ times' report₁ ≡ done → tape y out₂ report' ≡ let_go p (tape r.pass out₁ report₁)
      → bytes ≡ closed_size y.pen → out₃ ≡ closed_in out₂ y.pen
      → Tallied ks p c n (record { bytes = bytes; times = r.times; entries = y.entries }) out₃ times times' report report'
  tallied {r} {y} {out₁} {out₂} {out₃} {times'} {report₁} {report'} {bytes} a b d e =
      let z : tape y out₂ report' ≡ closing = b ∙ ap (λ (x : Reel). let_go p x.words) a in
      let w : Wrote (flat_map item_bits whole.its) out₂ y.pen = subst (λ (t : Tape). Wrote (flat_map item_bits whole.its) t.out t.pass.pen) (sym z) whole_wrote in
      let m : Laid (map entry_number whole.report) report report' y.entries = subst (λ (t : Tape). Laid (map entry_number whole.report) report t.report t.pass.entries) (sym z) whole_report in
      let k : Laid (time_row p c n) times times' r.times = subst (λ (x : Reel). Laid (time_row p c n) times x.row x.times) (sym a) whole_times in
      let s : bytes ≡ length (log_of whole.its) = d ∙ closed_size_lem whole.its out₂ y.pen w in
      record {
        bytes = s;
        log = λ h.
            let long : length out₃ ≡ length out₂ = ap length e ∙ closed_long whole.its out₂ y.pen w in
            ap₂ (λ (j : ℕ) (l : List ℕ). take j l) s e ∙ closed_log whole.its out₂ y.pen w (omega (arith, h, s, long));
        number_times = k.count;
        times_laid = k.is;
        number_entries = m.count ∙ length-map whole.report entry_number;
        entries_laid = m.is;
      }
