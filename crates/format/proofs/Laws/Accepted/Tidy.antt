-- No misplaced fill: the data words come first, then fill on bus 0, in the fewest groups.
use Rattle.std.specs.Prelude.{ℕ, zero, suc, ◌+◌, ◌*◌, ◌<◌, ◌≤◌, Bool, true, false, cond, ◌&&◌, ◌||◌, not, ◌≡◌, refl, length, eqb}
use Rattle.std.proofs.Common.{arith, ap, ap₂, sym, ◌∙◌, length-append, eqb-true}
use mathlib.Core.List.{List, [], ◌∷◌, ◌++◌, map, flat_map, append_assoc, append-nil}
use Rattle.std.proofs.lemmas.List.{length-map}
use Rattle.std.proofs.lemmas.Bool.{not-false}
use Rattle.format.specs.Word.{is_fill, bus_of, word_at}
use Rattle.format.specs.Plan.{group_words, slots, lead, place_of}
use Rattle.format.specs.Reader.{Slot, data_of}
use Rattle.format.specs.Lists.{list, All, nil, cons}
use Rattle.format.specs.Group.{group_slots, Fault, none, found}
use Rattle.format.specs.Read.{any_data, misplaced_in, misplaced, slots_from}
use Rattle.format.specs.Laws.Tests.{clash, or_false}
use Rattle.format.specs.Laws.Lists.{map_append, length_list}
use Rattle.format.proofs.Laws.Reader.Groups.{data_append}
use Rattle.format.specs.declared.Plan.{Plan}

abbrev pub words_in : List Slot → List ℕ
words_in ss = map (λ (s : Slot). s.1) ss

-- fill on the plan's bus
abbrev pub Blank : Bool → ℕ → ℕ → Type 0
Blank parity b w = (is_fill w ≡ true) × (bus_of parity w ≡ b)

pub no_fault : {A : Type 0} (n q : ℕ) → found n q ≡ none → A
no_fault n q e = let z : ◌≡◌ {A = ℕ} 0 1 = cc in absurd (omega arith)

-- no data words
none_data : (ss : List Slot) → any_data ss ≡ false → data_of ss ≡ []
unfolding any_data data_of
none_data [] e = refl
none_data (s ∷ ss) e = go (is_fill s.1) (or_false _ _ e).0 (none_data ss (or_false (not (is_fill s.1)) _ e).1)
  where
    go : (b : Bool) → not b ≡ false → data_of ss ≡ [] → cond b (data_of ss) (s.1 ∷ data_of ss) ≡ []
    go true n r = r
    go false n r = clash (sym n)

any_data_lem : (ss : List Slot) → any_data ss ≡ true → 1 ≤ length (data_of ss)
unfolding any_data data_of
any_data_lem [] e = clash e
any_data_lem (s ∷ ss) e = go (is_fill s.1) e (any_data_lem ss)
  where
    go : (b : Bool) → (not b || any_data ss) ≡ true → (any_data ss ≡ true → 1 ≤ length (data_of ss)) → 1 ≤ length (cond b (data_of ss) (s.1 ∷ data_of ss))
    go true n r = r n
    go false n r = omega arith

-- one group's slots, with those of the later groups behind them
pub record Tidy (p : Plan) (ss behind : List Slot) (near : Bool) : Type 0 where
  pub fills : List ℕ
  pub is : words_in ss ≡ data_of ss ++ fills
  pub blank : All (Blank p.parity p.fill_bus) fills
  pub ends : 1 ≤ length fills → (any_data behind ≡ false) × (near ≡ true)

tidy : (p : Plan) (ss behind : List Slot) (near : Bool) (rest : Fault) → misplaced_in p ss behind near rest ≡ none → Tidy p ss behind near × (rest ≡ none)
unfolding misplaced_in data_of
tidy p [] behind near rest e = (record { fills = []; is = refl; blank = nil; ends = λ (h : 1 ≤ 0). absurd (omega arith) }, e)
tidy p (s ∷ ss) behind near rest e = go (is_fill s.1) refl e (tidy p ss behind near rest)
  where
    test : Bool
    test = any_data ss || any_data behind || not near || not (eqb (bus_of p.parity s.1) p.fill_bus)

    filled : is_fill s.1 ≡ true → (t : Bool) → test ≡ t → cond t (found 14 s.0) (misplaced_in p ss behind near rest) ≡ none
        → (misplaced_in p ss behind near rest ≡ none → Tidy p ss behind near × (rest ≡ none))
        → ((fills : List ℕ) × (s.1 ∷ words_in ss ≡ data_of ss ++ fills) × All (Blank p.parity p.fill_bus) fills × (1 ≤ length fills → (any_data behind ≡ false) × (near ≡ true))) × (rest ≡ none)
    filled b true t e ih = no_fault _ _ e
    filled b false t e ih =
        let r = ih e in
        let t1 = or_false (any_data ss || any_data behind || not near) _ t in
        let t2 = or_false (any_data ss || any_data behind) _ t1.0 in
        let t3 = or_false (any_data ss) _ t2.0 in
        let n : near ≡ true = not-false near t2.1 in
        let z : bus_of p.parity s.1 ≡ p.fill_bus = eqb-true _ _ (not-false _ t1.1) in
        let d : data_of ss ≡ [] = none_data ss t3.0 in
        ((s.1 ∷ r.0.fills, rw d (ap (λ (l : List ℕ). s.1 ∷ l) (r.0.is ∙ rw d)), cons (b, z) r.0.blank, λ h. (t3.1, n)), r.1)

    go : (b : Bool) → is_fill s.1 ≡ b → cond (b && test) (found 14 s.0) (misplaced_in p ss behind near rest) ≡ none
        → (misplaced_in p ss behind near rest ≡ none → Tidy p ss behind near × (rest ≡ none))
        → Tidy p (s ∷ ss) behind near × (rest ≡ none)
    go true b e ih =
        let f = filled b test refl e ih in
        (record { fills = f.0.0; is = f.0.1 ∙ rw b; blank = f.0.2; ends = f.0.3 }, f.1)
    go false b e ih =
        let r = ih e in
        (record { fills = r.0.fills; is = rw b (ap (λ (l : List ℕ). s.1 ∷ l) r.0.is); blank = r.0.blank; ends = r.0.ends }, r.1)

later_is : (p : Plan) (c : List ℕ) (m g : ℕ) → flat_map (λ (x : List Slot). x) (list (λ g. group_slots p c (g * group_words p)) g m) ≡ slots_from p c m g
unfolding flat_map list slots_from
later_is p c zero g = refl
later_is p c (suc m) g = rw (later_is p c m (g + 1))

pub slots_length : (p : Plan) (c : List ℕ) (at : ℕ) → length (words_in (group_slots p c at)) ≡ slots p
unfolding group_slots
slots_length p c at =
    length-map (list (λ s. (at + place_of p s, word_at c (at + place_of p s))) (lead p) (slots p)) (λ (s : Slot). s.1)
    ∙ length_list (λ s. (at + place_of p s, word_at c (at + place_of p s))) (lead p) (slots p)

count : (m k d l : ℕ) → 1 ≤ k → d ≡ k → (1 ≤ m → m * k < l + k) → suc m * k < d + l + k
count zero k d l h e f = omega arith
count (suc m) k d l h e f = omega (arith, f (omega arith))

last_one : (m k : ℕ) → (1 ≤ m → m * k < 0 + k) → m ≡ 0
last_one zero k f = refl
last_one (suc m) k f = absurd (omega (arith, f (omega arith)))

or_left : (a b : Bool) → (a || b) ≡ true → b ≡ false → a ≡ true
or_left true b e f = refl
or_left false b e f = clash (sym f ∙ e)

-- m groups from g on
pub record AllTidy (p : Plan) (c : List ℕ) (m g : ℕ) : Type 0 where
  pub fills : List ℕ
  pub is : words_in (slots_from p c m g) ≡ data_of (slots_from p c m g) ++ fills
  pub blank : All (Blank p.parity p.fill_bus) fills
  pub fewest : 1 ≤ m → m * slots p < length (data_of (slots_from p c m g)) + slots p

pub all_tidy : (p : Plan) → 1 ≤ slots p → (c : List ℕ) (m g : ℕ) → misplaced p (list (λ g. group_slots p c (g * group_words p)) g m) ≡ none → AllTidy p c m g
unfolding misplaced list slots_from data_of
all_tidy p free c zero g e = record { fills = []; is = refl; blank = nil; fewest = λ (h : 1 ≤ 0). absurd (omega arith) }
all_tidy p free c (suc m) g e = put (tidy p ss (flat_map (λ (x : List Slot). x) gs) (any_data ss || any_data (flat_map (λ (x : List Slot). x) gs)) (misplaced p gs) e) (all_tidy p free c m (g + 1))
  where
    ss : List Slot
    ss = group_slots p c (g * group_words p)

    gs : List (List Slot)
    gs = list (λ g. group_slots p c (g * group_words p)) (g + 1) m

    more : List Slot
    more = slots_from p c m (g + 1)

    both : data_of (ss ++ more) ≡ data_of ss ++ data_of more
    both = data_append ss more

    -- a group that is full
    whole : words_in ss ≡ data_of ss ++ [] → AllTidy p c m (g + 1) → AllTidy p c (suc m) g
    whole i r =
        let n : length (data_of ss) ≡ slots p = ap length (sym (append-nil (data_of ss)) ∙ sym i) ∙ slots_length p c (g * group_words p) in
        record {
          fills = r.fills;
          is = map_append (λ (s : Slot). s.1) ss more ∙ ap₂ (λ (a b : List ℕ). a ++ b) (i ∙ append-nil (data_of ss)) r.is
              ∙ sym (append_assoc (data_of ss) (data_of more) r.fills) ∙ ap (λ (l : List ℕ). l ++ r.fills) (sym both);
          blank = r.blank;
          fewest = λ h. rw (both, length-append (data_of ss) (data_of more)) (count m (slots p) (length (data_of ss)) (length (data_of more)) free n r.fewest);
        }

    -- a group with fill, which is the last
    partial : (fs : List ℕ) → 1 ≤ length fs → words_in ss ≡ data_of ss ++ fs → All (Blank p.parity p.fill_bus) fs → any_data more ≡ false → any_data ss ≡ true
        → AllTidy p c m (g + 1) → AllTidy p c (suc m) g
    partial fs h i b n a r =
        let d : data_of more ≡ [] = none_data more n in
        let z : m ≡ 0 = last_one m (slots p) (rw d at r.fewest) in
        let w : words_in more ≡ [] = ap (λ (k : ℕ). words_in (slots_from p c k (g + 1))) z in
        record {
          fills = fs;
          is = map_append (λ (s : Slot). s.1) ss more ∙ ap₂ (λ (a b : List ℕ). a ++ b) i w ∙ append-nil (data_of ss ++ fs)
              ∙ ap (λ (l : List ℕ). l ++ fs) (sym (append-nil (data_of ss)) ∙ ap (λ (l : List ℕ). data_of ss ++ l) (sym d) ∙ sym both);
          blank = b;
          fewest = λ h. rw (both, length-append (data_of ss) (data_of more), z) (omega (arith, any_data_lem ss a));
        }

    put : Tidy p ss (flat_map (λ (x : List Slot). x) gs) (any_data ss || any_data (flat_map (λ (x : List Slot). x) gs)) × (misplaced p gs ≡ none)
        → (misplaced p gs ≡ none → AllTidy p c m (g + 1)) → AllTidy p c (suc m) g
    put t ih = pick t.0.fills t.0.is t.0.blank t.0.ends (ih t.1)
      where
        pick : (fs : List ℕ) → words_in ss ≡ data_of ss ++ fs → All (Blank p.parity p.fill_bus) fs
            → (1 ≤ length fs → (any_data (flat_map (λ (x : List Slot). x) gs) ≡ false) × ((any_data ss || any_data (flat_map (λ (x : List Slot). x) gs)) ≡ true))
            → AllTidy p c m (g + 1) → AllTidy p c (suc m) g
        pick [] i b n r = whole i r
        pick (x ∷ fs) i b n r =
            let t = n (omega arith) in
            partial (x ∷ fs) (omega arith) i b (rw (later_is p c m (g + 1)) at t.0) (or_left (any_data ss) _ t.1 t.0) r
