-- The yes is given exactly where all the rules hold, and 18 names the first item that breaks one (document 02, K11).
use Rattle.std.specs.Prelude.{ℕ, ◌+◌, ◌≤◌, Bool, true, false, cond, ◌≡◌, refl, ◌↔◌, ◌⊎◌, length}
use Rattle.std.proofs.Common.{arith, ap, sym, ◌∙◌, inl, inr, length-append}
use mathlib.Core.List.{List, [], ◌∷◌, ◌++◌, flat_map}
use Rattle.format.specs.Item.{item_bits}
use Rattle.format.specs.Log.{Parsed, items, fault, parsed, on_no_plan}
use Rattle.format.specs.Group.{Fault, none, found}
use Rattle.format.specs.Laws.Tests.{clash}
use Rattle.log_rules.specs.Profile.{in_profile, first_break, profile_parsed, profiled, profile_answer, Judged, Rules, BreaksAt}
use Rattle.log_rules.specs.Laws.Faults.{not_none, log_refused}
use Rattle.log_rules.specs.Laws.Profile.Rules.{Kept, kept_rules, rules_kept}
use Rattle.format.specs.declared.Answer.{Answer}
use Rattle.format.specs.declared.Item.{Item}

-- ---- the yes

none_kept : (before : List Item) (p : ℕ) (is : List Item) → first_break before p is ≡ none → Kept before is
unfolding first_break
none_kept before p [] e = tt
none_kept before p (i ∷ is) e = go (in_profile before i) refl e (none_kept (i ∷ before) (p + length (item_bits i)) is)
  where
    go : (b : Bool) → in_profile before i ≡ b → cond b (first_break (i ∷ before) (p + length (item_bits i)) is) (found 18 p) ≡ none
        → (first_break (i ∷ before) (p + length (item_bits i)) is ≡ none → Kept (i ∷ before) is) → (in_profile before i ≡ true) × Kept (i ∷ before) is
    go true t z ih = (t, ih z)
    go false t z ih = not_none z

kept_none : (before : List Item) (p : ℕ) (is : List Item) → Kept before is → first_break before p is ≡ none
unfolding first_break
kept_none before p [] k = refl
kept_none before p (i ∷ is) k = rw k.0 (kept_none (i ∷ before) (p + length (item_bits i)) is k.1)

pub yes_exactly : (log : List ℕ) → (profiled log ≡ none) ↔ ((is : List Item) × (parsed on_no_plan log ≡ items is) × Rules is)
unfolding profiled
yes_exactly log = (λ e. there (parsed on_no_plan log) e, λ z. rw z.1 (kept_none [] 0 z.0 (rules_kept z.0 z.2)))
  where
    there : (r : Parsed) → profile_parsed r ≡ none → (is : List Item) × (r ≡ items is) × Rules is
    there (items is) e = (is, refl, kept_rules is (none_kept [] 0 is e))
    there (fault n p) e = not_none e

pub empty_keeps : Rules []
empty_keeps = kept_rules [] tt

-- ---- 18

-- the items before, the latest first
abbrev onto : List Item → List Item → List Item
onto [] before = before
onto (x ∷ xs) before = onto xs (x ∷ before)

kept_behind : (before xs ys : List Item) → Kept before (xs ++ ys) → Kept (onto xs before) ys
kept_behind before [] ys k = k
kept_behind before (x ∷ xs) ys k = kept_behind (x ∷ before) xs ys k.1

kept_more : (before xs : List Item) (i : Item) → Kept before xs → in_profile (onto xs before) i ≡ true → Kept before (xs ++ i ∷ [])
kept_more before [] i k e = (e, tt)
kept_more before (x ∷ xs) i k e = (k.0, kept_more (x ∷ before) xs i k.1 e)

-- where the judging stops
record Stops (before : List Item) (p : ℕ) (is : List Item) (q : ℕ) : Type 0 where
  pub xs : List Item
  pub i : Item
  pub ys : List Item
  pub row : is ≡ xs ++ i ∷ ys
  pub kept : Kept before xs
  pub broken : in_profile (onto xs before) i ≡ false
  pub place : q ≡ p + length (flat_map item_bits xs)

same_place : {m n q r : ℕ} → found m q ≡ found n r → q ≡ r
same_place e = cc

found_stops : (before : List Item) (p : ℕ) (is : List Item) (q : ℕ) → first_break before p is ≡ found 18 q → Stops before p is q
unfolding first_break flat_map
found_stops before p [] q e = not_none (sym e)
found_stops before p (i ∷ is) q e = go (in_profile before i) refl e (found_stops (i ∷ before) (p + length (item_bits i)) is q)
  where
    go : (b : Bool) → in_profile before i ≡ b → cond b (first_break (i ∷ before) (p + length (item_bits i)) is) (found 18 p) ≡ found 18 q
        → (first_break (i ∷ before) (p + length (item_bits i)) is ≡ found 18 q → Stops (i ∷ before) (p + length (item_bits i)) is q) → Stops before p (i ∷ is) q
    go true t z ih =
        let s = ih z in
        record {
          xs = i ∷ s.xs;
          i = s.i;
          ys = s.ys;
          row = ap (λ (l : List Item). i ∷ l) s.row;
          kept = (t, s.kept);
          broken = s.broken;
          place = omega (arith, s.place, length-append (item_bits i) (flat_map item_bits s.xs));
        }
    go false t z ih = record { xs = []; i = i; ys = is; row = refl; kept = tt; broken = t; place = omega (arith, same_place z) }

break_at : (before : List Item) (p : ℕ) (xs ys : List Item) (i : Item) → Kept before xs → in_profile (onto xs before) i ≡ false
    → first_break before p (xs ++ i ∷ ys) ≡ found 18 (p + length (flat_map item_bits xs))
unfolding first_break flat_map
break_at before p [] ys i k e = rw e (ap (found 18) (omega arith))
break_at before p (x ∷ xs) ys i k e =
    let z : p + length (item_bits x) + length (flat_map item_bits xs) ≡ p + length (item_bits x ++ flat_map item_bits xs) = omega (arith, length-append (item_bits x) (flat_map item_bits xs)) in
    rw k.0 (break_at (x ∷ before) (p + length (item_bits x)) xs ys i k.1 e ∙ ap (found 18) z)

items_break : (is : List Item) (q : ℕ) → (first_break [] 0 is ≡ found 18 q) ↔ BreaksAt is q
items_break is q = (λ e. there (found_stops [] 0 is q e), back)
  where
    there : Stops [] 0 is q → BreaksAt is q
    there s = record {
      before = s.xs;
      item = s.i;
      behind = s.ys;
      row = s.row;
      keep = kept_rules s.xs s.kept;
      breaks = λ w. clash (sym s.broken ∙ (kept_behind [] s.xs (s.i ∷ []) (rules_kept (s.xs ++ s.i ∷ []) w)).0);
      first_bit = omega (arith, s.place);
    }

    back : BreaksAt is q → first_break [] 0 is ≡ found 18 q
    back b = go (in_profile (onto b.before []) b.item) refl
      where
        k : Kept [] b.before
        k = rules_kept b.before b.keep

        go : (t : Bool) → in_profile (onto b.before []) b.item ≡ t → first_break [] 0 is ≡ found 18 q
        go true e = absurd (b.breaks (kept_rules (b.before ++ b.item ∷ []) (kept_more [] b.before b.item k e)))
        go false e =
            let z : 0 + length (flat_map item_bits b.before) ≡ q = omega (arith, b.first_bit) in
            ap (first_break [] 0) b.row ∙ break_at [] 0 b.before b.behind b.item k e ∙ ap (found 18) z

pub breaks_exactly : (log : List ℕ) (q : ℕ) → (profiled log ≡ found 18 q) ↔ ((is : List Item) × (parsed on_no_plan log ≡ items is) × BreaksAt is q)
unfolding profiled
breaks_exactly log q = (λ e. there (parsed on_no_plan log) refl e, λ z. rw z.1 ((items_break z.0 q).1 z.2))
  where
    number : {n p : ℕ} → found n p ≡ found 18 q → n ≡ 18
    number z = cc

    there : (r : Parsed) → parsed on_no_plan log ≡ r → profile_parsed r ≡ found 18 q → (is : List Item) × (r ≡ items is) × BreaksAt is q
    there (items is) r e = (is, refl, (items_break is q).0 e)
    there (fault n p) r e = absurd (omega (arith, number e, log_refused log n p r))

-- ---- what is answered

first_found : (before : List Item) (p : ℕ) (is : List Item) (n q : ℕ) → first_break before p is ≡ found n q → n ≡ 18
unfolding first_break
first_found before p [] n q e = not_none (sym e)
first_found before p (i ∷ is) n q e = go (in_profile before i) e (first_found (i ∷ before) (p + length (item_bits i)) is n q)
  where
    go : (b : Bool) → cond b (first_break (i ∷ before) (p + length (item_bits i)) is) (found 18 p) ≡ found n q
        → (first_break (i ∷ before) (p + length (item_bits i)) is ≡ found n q → n ≡ 18) → n ≡ 18
    go true z ih = ih z
    go false z ih = cc

found_number : (log : List ℕ) (n q : ℕ) → profiled log ≡ found n q → ((2 ≤ n) × (n ≤ 4)) ⊎ (n ≡ 18)
unfolding profiled
found_number log n q e = go (parsed on_no_plan log) refl e
  where
    go : (r : Parsed) → parsed on_no_plan log ≡ r → profile_parsed r ≡ found n q → ((2 ≤ n) × (n ≤ 4)) ⊎ (n ≡ 18)
    go (items is) r z = inr (first_found [] 0 is n q z)
    go (fault m p) r z = inl (log_refused log n q (r ∙ same z))
      where
        same : found m p ≡ found n q → fault m p ≡ fault n q
        same y = cc

pub number_yes : (log : List ℕ) (r : Answer) → Judged log r → (r.number ≡ 0) ↔ (profiled log ≡ none)
number_yes log r j = (λ e. there (profiled log) refl j e, λ e. ap (λ (a : Answer). a.number) (j ∙ ap profile_answer e))
  where
    there : (f : Fault) → profiled log ≡ f → r ≡ profile_answer f → r.number ≡ 0 → f ≡ none
    there none p a e = refl
    there (found n q) p a e = never (found_number log n q p)
      where
        z : n ≡ 0
        z = sym (ap (λ (x : Answer). x.number) a) ∙ e

        never : ((2 ≤ n) × (n ≤ 4)) ⊎ (n ≡ 18) → found n q ≡ none
        never (inl h) = absurd (omega (arith, z, h.0))
        never (inr h) = absurd (omega (arith, z, h))

pub number_18 : (log : List ℕ) (r : Answer) (q : ℕ) → Judged log r → ((r.number ≡ 18) × (r.place ≡ q)) ↔ (profiled log ≡ found 18 q)
number_18 log r q j = (λ e. there (profiled log) j e.0 e.1, λ e. (ap (λ (a : Answer). a.number) (j ∙ ap profile_answer e), ap (λ (a : Answer). a.place) (j ∙ ap profile_answer e)))
  where
    there : (f : Fault) → r ≡ profile_answer f → r.number ≡ 18 → r.place ≡ q → f ≡ found 18 q
    there none a e g = let z : ◌≡◌ {A = ℕ} 0 18 = sym (ap (λ (x : Answer). x.number) a) ∙ e in absurd (omega arith)
    there (found n p) a e g =
        let x : n ≡ 18 = sym (ap (λ (y : Answer). y.number) a) ∙ e in
        let y : p ≡ q = sym (ap (λ (y : Answer). y.place) a) ∙ g in
        rw (x, y) refl
