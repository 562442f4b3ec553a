-- What the words of a row bring to the log and to the report is what the definition salvages.
use Prim.Native.Nat.{ℕ, zero, suc, ◌+◌, ◌*◌, ◌^◌, ◌<◌, ◌≤◌}
use native.Mathlib.Decide.{dec_lt}
use native.Mathlib.Omega.{arith}
use mathlib.Core.Bool.{Bool, true, false, cond}
use mathlib.Core.Path.{◌≡◌, refl, sym, ap, ap₂, subst, ◌∙◌}
use mathlib.Core.List.{List, [], ◌∷◌, ◌++◌, map, flat_map, append_assoc, append-nil}
use lib.ListN.{length, take, drop, set, length-append, length-take, length-drop, drop_of_length-le}
use lib.Seq.{take_all}
use Rattle.format.specs.Lists.{All, nil, cons}
use Rattle.format.specs.Item.{item_bits}
use Rattle.format.specs.Plan.{stored_at}
use Rattle.format.specs.Word.{bus_of, label_of, info_of, is_fill}
use Rattle.format.specs.Reader.{Slot, Fed, bad, fed, feed, counted}
use Rattle.format.specs.Read.{Got, got, stopped, finish}
use Rattle.format.specs.declared.Kind.{Kind}
use Rattle.format.specs.declared.Plan.{Plan}
use Rattle.format.specs.declared.Item.{Item}
use Rattle.format.specs.declared.Held.{Held}
use Rattle.format.specs.declared.Held.TheVariants.{Nothing, Taggable, Half, TagHigh, TagLow, Answering}
use Rattle.format.specs.Laws.Lists.{flat_map_append, map_append}
use Rattle.format.specs.Laws.Front.{Front, front_more}
use Rattle.format.proofs.Laws.Reader.Named.{named}
use Rattle.salvage_rules.specs.Salvage.{Piece, gap, datum, data_pieces, Entry, lost_group, lost_word, Saved, first, held_words, last_of, finished, unfinished, tried, salvage_word, salvage, entry_number}
use Rattle.salvage_rules.proofs.Laws.Salvage.Account.{first_twice}
use Rattle.data_start.specs.declared.Step.{Step}
use Rattle.data_start.specs.Holding.{flat}
use Rattle.data_word.specs.Holding.{held_of, Sane}
use Rattle.data_word.specs.Meaning.{Brings, Means, Closes}
use Rattle.data_word.proofs.Flat.{nothing_is_held}
use Rattle.data_word.proofs.Meaning.{finish_means, nothing_is_sane}
use Rattle.data_put.proofs.Steps.{step_long, step_wrote}
use Rattle.log_write.specs.Pen.{Wrote}
use Rattle.salvage_run.specs.declared.Last.{Last}
use Rattle.salvage_run.specs.declared.Pass.{Pass}
use Rattle.salvage_run.specs.Tape.{drop_group, drop_held, freed, held_places, laid, let_go, numbers_of, on_row, on_word, put, put_all, put_at, shifted, Tape, taken, told, try_start, word_step}
use Rattle.salvage_run.proofs.Held.{feed_holds, held_few, Holds, places_shift}
use Rattle.salvage_run.proofs.Rows.{all_long, put_in, put_out}
use Rattle.salvage_run.proofs.Sounds.{let_gone, word_sane}
use Rattle.salvage_run.proofs.Steps.{let_dropped, let_put, start_lost, start_means, start_taken, word_broken, word_means, word_taken}

-- ---- numbers laid into a row from its front, as far as there is room

pub record Laid (ns old new : List ℕ) (n : ℕ) : Type 0 where
  pub is : new ≡ laid ns old
  pub count : n ≡ length ns

pub laid_none : (old : List ℕ) → Laid [] old old 0
laid_none old = record { is = none (length old); count = refl }
  where
    none : (k : ℕ) → old ≡ take k [] ++ drop 0 old
    none zero = refl
    none (suc k) = refl

-- all of them, where there is room
pub laid_over : (ns old : List ℕ) → length ns ≤ length old → laid ns old ≡ ns ++ drop (length ns) old
laid_over ns old h = ap (λ (l : List ℕ). l ++ drop (length ns) old) (take_all (length old) ns h)

length_laid : (ns old : List ℕ) → length (laid ns old) ≡ length old
length_laid ns old = length-append (take (length old) ns) (drop (length ns) old) ∙ rw (length-take, length-drop) (omega arith)

take_front : (ns : List ℕ) (v k : ℕ) → k ≤ length ns → take k (ns ++ v ∷ []) ≡ take k ns
take_front ns v zero h = refl
take_front [] v (suc k) h = absurd (omega arith)
take_front (n ∷ ns) v (suc k) h = ap (λ (l : List ℕ). n ∷ l) (take_front ns v k (omega arith))

laid_one : (ns old new : List ℕ) (n v : ℕ) → Laid ns old new n → Laid (ns ++ v ∷ []) old (put_at new n v) (n + 1)
laid_one ns old new n v l = record { is = go (dec_lt (length ns) (length old)); count = ap (λ (k : ℕ). k + 1) l.count ∙ sym (length-append ns (v ∷ [])) }
  where
    long : length new ≡ length old
    long = ap length l.is ∙ length_laid ns old

    go : Dec (length ns < length old) → put_at new n v ≡ laid (ns ++ v ∷ []) old
    go (yes h) =
        let f : Front ns old new n = record { is = l.is ∙ laid_over ns old (omega arith) ∙ ap (λ (k : ℕ). ns ++ drop k old) (sym l.count); size = sym l.count; fits = omega (arith, l.count) } in
        let z : length (ns ++ v ∷ []) ≡ n + 1 = length-append ns (v ∷ []) ∙ ap (λ (k : ℕ). k + 1) (sym l.count) in
        sym (put_in new n v (omega (arith, l.count, long))) ∙ (front_more v f (omega (arith, l.count))).is
        ∙ ap (λ (k : ℕ). (ns ++ v ∷ []) ++ drop k old) (sym z) ∙ sym (laid_over (ns ++ v ∷ []) old (omega (arith, z, l.count)))
    go (no h) =
        let o : length old ≤ length ns = omega arith in
        let p : length old ≤ length (ns ++ v ∷ []) = rw (length-append ns (v ∷ [])) (omega arith) in
        sym (put_out new n v (omega (arith, l.count, long))) ∙ l.is
        ∙ ap₂ (λ (x y : List ℕ). x ++ y) (sym (take_front ns v (length old) o)) (drop_of_length-le old o ∙ sym (drop_of_length-le old p))

pub laid_more : (ns old new : List ℕ) (n : ℕ) (vs : List ℕ) → Laid ns old new n → Laid (ns ++ vs) old (put_all new n vs) (n + length vs)
unfolding put_all
laid_more ns old new n [] l = let z : n ≡ n + 0 = omega arith in subst (λ (k : ℕ). Laid (ns ++ []) old new k) z (subst (λ (m : List ℕ). Laid m old new n) (sym (append-nil ns)) l)
laid_more ns old new n (v ∷ vs) l =
    let z : n + 1 + length vs ≡ n + suc (length vs) = omega arith in
    subst (λ (k : ℕ). Laid (ns ++ v ∷ vs) old (put_all (put_at new n v) (n + 1) vs) k) z
    (subst (λ (m : List ℕ). Laid m old (put_all (put_at new n v) (n + 1) vs) (n + 1 + length vs)) (append_assoc ns (v ∷ []) vs)
    (laid_more (ns ++ v ∷ []) old (put_at new n v) (n + 1) vs (laid_one ns old new n v l)))

-- ---- items and entries more

pub record Went (is : List Item) (es : List Entry) (t t' : Tape) : Type 0 where
  pub sane : Sane t'.pass.held
  pub long : length t'.out ≡ length t.out
  pub wrote : (bits : List ℕ) → Wrote bits t.out t.pass.pen → Wrote (bits ++ flat_map item_bits is) t'.out t'.pass.pen
  pub lays : (ns old : List ℕ) → Laid ns old t.report t.pass.entries → Laid (ns ++ map entry_number es) old t'.report t'.pass.entries

pub went_then : {is js : List Item} {es fs : List Entry} {t u v : Tape} → Went is es t u → Went js fs u v → Went (is ++ js) (es ++ fs) t v
went_then {is} {js} {es} {fs} {t} {u} {v} a b = record {
  sane = b.sane;
  long = b.long ∙ a.long;
  wrote = λ bits w.
      subst (λ (n : List ℕ). Wrote n v.out v.pass.pen) (append_assoc bits (flat_map item_bits is) (flat_map item_bits js) ∙ ap (◌++◌ bits) (sym (flat_map_append item_bits is js)))
      (b.wrote (bits ++ flat_map item_bits is) (a.wrote bits w));
  lays = λ ns old l.
      subst (λ (m : List ℕ). Laid m old v.report v.pass.entries)
      (append_assoc ns (map entry_number es) (map entry_number fs) ∙ ap (◌++◌ ns) (sym (map_append entry_number es fs)))
      (b.lays (ns ++ map entry_number es) old (a.lays ns old l));
}

went_put : (is : List Item) (h : Held) (s : Step) (l : Last) (t : Tape) → Brings is h s → Went is [] t (put s l t)
went_put is h s l t b = record {
  sane = b.sane;
  long = step_long is h s b t.pass.pen t.out;
  wrote = λ bits w. step_wrote is h s b t.pass.pen bits t.out w;
  lays = λ ns old m. subst (λ (k : List ℕ). Laid k old t.report t.pass.entries) (sym (append-nil ns)) m;
}

went_told : (es : List Entry) (ns : List ℕ) (t : Tape) → map entry_number es ≡ ns → Went [] es t (told ns t)
unfolding flat_map
went_told es ns t e = record {
  sane = nothing_is_sane;
  long = refl;
  wrote = λ bits w. subst (λ (n : List ℕ). Wrote n t.out t.pass.pen) (sym (append-nil bits)) w;
  lays = λ ms old m. subst (λ (k : List ℕ). Laid (ms ++ k) old (put_all t.report t.pass.entries ns) (t.pass.entries + length ns)) (sym e)
      (laid_more ms old t.report t.pass.entries ns m);
}

words_number : (ps : List ℕ) → map entry_number (map lost_word ps) ≡ ps
words_number [] = refl
words_number (q ∷ ps) = ap (λ (l : List ℕ). q ∷ l) (words_number ps)

-- ---- what is held is let go

module _ (p : Plan) (t : Tape) where
  abbrev held : Held
  held = held_of t.pass.held

  let_by : (h : Held) → held ≡ h → (g : Got) → finish h 0 ≡ g → Closes g (freed t.pass) → Went (finished h) (map lost_word (unfinished h (held_places p t.pass))) t (let_go p t)
  let_by h e g f m = go h g f m
    where
      ps : List ℕ
      ps = held_places p t.pass

      kept : (is : List Item) → Brings is Nothing (freed t.pass) → Went is [] t (let_go p t)
      kept is b = subst (Went is [] t) (let_put p t refl b.good) (went_put is Nothing (freed t.pass) t.pass.last t b)

      lost : (freed t.pass).bad ≡ true → Went [] (map lost_word ps) t (let_go p t)
      lost z = subst (Went [] (map lost_word ps) t) (let_dropped p t refl z) (went_told (map lost_word ps) ps t (words_number ps))

      go : (h : Held) (g : Got) → finish h 0 ≡ g → Closes g (freed t.pass) → Went (finished h) (map lost_word (unfinished h ps)) t (let_go p t)
      go Nothing g f m = kept [] (subst (λ (x : Got). Closes x (freed t.pass)) (sym f) m)
      go (Taggable x) g f m = kept _ (subst (λ (x : Got). Closes x (freed t.pass)) (sym f) m)
      go (Half bus c high) g f m = lost (subst (λ (x : Got). Closes x (freed t.pass)) (sym f) m)
      go (TagHigh x high) g f m = lost (subst (λ (x : Got). Closes x (freed t.pass)) (sym f) m)
      go (TagLow x high low) g f m = lost (subst (λ (x : Got). Closes x (freed t.pass)) (sym f) m)
      go (Answering bus r) g f m = lost (subst (λ (x : Got). Closes x (freed t.pass)) (sym f) m)

  pub let_went : Sane t.pass.held → Went (finished held) (map lost_word (unfinished held (held_places p t.pass))) t (let_go p t)
  let_went s = let_by held refl (finish held 0) refl (finish_means t.pass.held s 0)

-- ---- pieces of the tape

-- from t over the pieces to t', whatever the tape brings behind them
pub record Salvages (ks : List Kind) (p : Plan) (ts : List Piece) (t t' : Tape) : Type 0 where
  pub its : List Item
  pub report : List Entry
  pub is : (us : List Piece) → salvage ks p.parity (ts ++ us) (held_of t.pass.held) (held_places p t.pass)
      ≡ first its report (salvage ks p.parity us (held_of t'.pass.held) (held_places p t'.pass))
  pub went : Went its report t t'

module _ (ks : List Kind) (p : Plan) where
  pub salvages_none : (t : Tape) → Sane t.pass.held → Salvages ks p [] t t
  unfolding flat_map
  salvages_none t s = record {
    its = [];
    report = [];
    is = λ us. refl;
    went = record {
      sane = s;
      long = refl;
      wrote = λ bits w. subst (λ (n : List ℕ). Wrote n t.out t.pass.pen) (sym (append-nil bits)) w;
      lays = λ ns old m. subst (λ (k : List ℕ). Laid k old t.report t.pass.entries) (sym (append-nil ns)) m;
    };
  }

  pub salvages_then : {ts us : List Piece} {t u v : Tape} → Salvages ks p ts t u → Salvages ks p us u v → Salvages ks p (ts ++ us) t v
  salvages_then {ts} {us} {t} {u} {v} a b = record {
    its = a.its ++ b.its;
    report = a.report ++ b.report;
    is = λ vs.
        ap (λ (l : List Piece). salvage ks p.parity l (held_of t.pass.held) (held_places p t.pass)) (append_assoc ts us vs) ∙ a.is (us ++ vs)
        ∙ ap (first a.its a.report) (b.is vs) ∙ first_twice a.its b.its a.report b.report (salvage ks p.parity vs (held_of v.pass.held) (held_places p v.pass));
    went = went_then a.went b.went;
  }

  -- nothing is held then
  none_held : (l : Last) → map (stored_at p) (last_of (held_words (held_of (flat Nothing))) (numbers_of l)) ≡ []
  none_held l = rw nothing_is_held refl

  pub gap_salvaged : (n g : ℕ) (t : Tape) → Salvages ks p (gap n g ∷ []) t (drop_group p n g t)
  unfolding salvage drop_group
  gap_salvaged n g t =
      let ps : List ℕ = held_places p t.pass in
      let es : List Entry = map lost_word ps ++ lost_group n g ∷ [] in
      record {
        its = [];
        report = es;
        is = λ us. ap₂ (λ (h : Held) (qs : List ℕ). first [] es (salvage ks p.parity us h qs)) (sym nothing_is_held) (sym (none_held t.pass.last));
        went = went_told es (ps ++ entry_number (lost_group n g) ∷ []) t
            (map_append entry_number (map lost_word ps) (lost_group n g ∷ []) ∙ ap (λ (l : List ℕ). l ++ entry_number (lost_group n g) ∷ []) (words_number ps));
      }

  -- ---- a word

  module _ (number word : ℕ) (small : word < 2 ^ 24) where
    abbrev fed_to : Held → Fed
    fed_to h = feed ks h (bus_of p.parity word) (label_of word) (info_of word)

    abbrev piece : Piece
    piece = datum (stored_at p number, word)

    abbrev goes : List Piece → Held → List ℕ → Saved
    goes us = λ h qs. salvage ks p.parity us h qs

    -- what is held after a word that is taken, by its places
    after_word : (h h' : Held) (is : List Item) (s : Step) (l : Last) (us : List Piece) → fed_to h ≡ fed is h' → Brings is h' s
        → goes us h' (last_of (held_words h') (map (stored_at p) (last_of (held_words h) (numbers_of l)) ++ stored_at p number ∷ []))
        ≡ goes us (held_of s.held) (map (stored_at p) (last_of (held_words (held_of s.held)) (numbers_of (shifted l number))))
    after_word h h' is s l us e b =
        let few : held_words h' ≤ held_words h + 1 = subst (Holds (held_words h + 1)) e (feed_holds ks h (bus_of p.parity word) (label_of word) (info_of word)) in
        ap (goes us h') (places_shift (stored_at p) (held_words h) (held_words h') (held_few h) (held_few h') few l number)
        ∙ ap (λ (k : Held). goes us k (map (stored_at p) (last_of (held_words k) (numbers_of (shifted l number))))) (sym b.holds)

    -- tried as a start, nothing being held
    record Tried (t t' : Tape) : Type 0 where
      pub its : List Item
      pub report : List Entry
      pub is : (us : List Piece) → tried (fed_to Nothing) (stored_at p number) (goes us) ≡ first its report (goes us (held_of t'.pass.held) (held_places p t'.pass))
      pub went : Went its report t t'

    tried_by : (t : Tape) (f : Fed) → fed_to Nothing ≡ f → Means f (word_step ks p.parity Nothing word) → Tried t (try_start ks p number word t)
    tried_by t bad e m =
        subst (Tried t) (start_lost p t ks number word refl m)
        (record {
          its = [];
          report = lost_word (stored_at p number) ∷ [];
          is = λ us.
              ap (λ (f : Fed). tried f (stored_at p number) (goes us)) e
              ∙ ap₂ (λ (h : Held) (qs : List ℕ). first [] (lost_word (stored_at p number) ∷ []) (goes us h qs)) (sym nothing_is_held) (sym (none_held t.pass.last));
          went = went_told (lost_word (stored_at p number) ∷ []) (stored_at p number ∷ []) t refl;
        })
    tried_by t (fed is h) e m =
        let s : Step = word_step ks p.parity Nothing word in
        subst (Tried t) (start_taken p t ks number word refl m.good refl)
        (record {
          its = is;
          report = [];
          is = λ us. ap (λ (f : Fed). tried f (stored_at p number) (goes us)) e ∙ ap (first is []) (after_word Nothing h is s t.pass.last us e m);
          went = went_put is h s (shifted t.pass.last number) t m;
        })

    start_tried : (t : Tape) → Tried t (try_start ks p number word t)
    start_tried t = tried_by t (fed_to Nothing) refl (start_means ks p.parity word small)

    word_by : (t : Tape) → Sane t.pass.held → (f : Fed) → fed_to (held_of t.pass.held) ≡ f → Means f (word_step ks p.parity (held_of t.pass.held) word)
        → Salvages ks p (piece ∷ []) t (on_word ks p number word t)
    unfolding salvage
    word_by t s bad e m =
        let h : Held = held_of t.pass.held in
        let ps : List ℕ = held_places p t.pass in
        let a = let_went p t s in
        let b = start_tried (let_go p t) in
        subst (Salvages ks p (piece ∷ []) t) (word_broken p t ks number word refl m)
        (record {
          its = finished h ++ b.its;
          report = map lost_word (unfinished h ps) ++ b.report;
          is = λ us.
              let u : Tape = try_start ks p number word (let_go p t) in
              ap (λ (f : Fed). salvage_word f (fed_to Nothing) h ps (stored_at p number) (goes us)) e
              ∙ ap (first (finished h) (map lost_word (unfinished h ps))) (b.is us)
              ∙ first_twice (finished h) b.its (map lost_word (unfinished h ps)) b.report (goes us (held_of u.pass.held) (held_places p u.pass));
          went = went_then a b.went;
        })
    word_by t s (fed is h') e m =
        let h : Held = held_of t.pass.held in
        let ps : List ℕ = held_places p t.pass in
        let r : Step = word_step ks p.parity h word in
        subst (Salvages ks p (piece ∷ []) t) (word_taken p t ks number word refl m.good refl)
        (record {
          its = is;
          report = [];
          is = λ us. ap (λ (f : Fed). salvage_word f (fed_to Nothing) h ps (stored_at p number) (goes us)) e ∙ ap (first is []) (after_word h h' is r t.pass.last us e m);
          went = went_put is h' r (shifted t.pass.last number) t m;
        })

    pub word_salvaged : (t : Tape) → Sane t.pass.held → Salvages ks p (piece ∷ []) t (on_word ks p number word t)
    word_salvaged t s = word_by t s (fed_to (held_of t.pass.held)) refl (word_means ks p.parity t.pass.held word small s)

  -- ---- a row

  abbrev pub row_pieces : ℕ → List ℕ → List Piece
  row_pieces from ws = data_pieces (map (named (stored_at p)) (counted from ws))

  pub row_salvaged : (from : ℕ) (ws : List ℕ) → All (λ w. w < 2 ^ 24) ws → (t : Tape) → Sane t.pass.held → Salvages ks p (row_pieces from ws) t (on_row ks p from ws t)
  unfolding on_row counted data_pieces
  row_salvaged from [] nil t s = salvages_none t s
  row_salvaged from (w ∷ ws) (cons {a} {l} small all) t s = go (is_fill w) (row_salvaged (from + 1) ws all)
    where
      go : (b : Bool) → ((t : Tape) → Sane t.pass.held → Salvages ks p (row_pieces (from + 1) ws) t (on_row ks p (from + 1) ws t))
          → Salvages ks p (cond b (row_pieces (from + 1) ws) (datum (stored_at p from, w) ∷ row_pieces (from + 1) ws)) t (on_row ks p (from + 1) ws (cond b t (on_word ks p from w t)))
      go true ih = ih t s
      go false ih = salvages_then (word_salvaged from w small t s) (ih (on_word ks p from w t) (word_sane p ks from w small t s))
