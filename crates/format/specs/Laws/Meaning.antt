-- What an open notice is, in the words of document 02, K2: the test of Notices says so, and only then.
use Rattle.std.specs.Prelude.{ℕ, zero, suc, ◌+◌, ◌<◌, ◌≤◌, Bool, true, false, cond, ◌&&◌, ◌||◌, ◌≡◌, refl, List, [], ◌∷◌, ◌++◌, length, eqb}
use Rattle.std.proofs.Common.{arith, ap, sym, ◌∙◌, length-append, eq-eqb, eqb-true}
use Rattle.std.proofs.lemmas.Bool.{eqb-false}
use Rattle.format.specs.Lists.{All, nil, cons}
use Rattle.format.specs.Notices.{is_word_of, is_notice_of, unanswered, is_open, first_open}
use Rattle.format.specs.Laws.Tests.{clash, and_true}
use Rattle.format.specs.Laws.Notices.{Answered, first_within}
use Rattle.format.specs.declared.Item.{Item}
use Rattle.format.specs.declared.Item.TheVariants.{Command, Status, Data, BusError, Arinc, Notice, User, Overflow}
use Rattle.format.specs.declared.Tag.{Tag}

-- of the items behind a notice: an "ARINC word of its bus and channel stands between it and their next notice"
pub record FindsWord (bus channel : ℕ) (behind : List Item) : Type 0 where
  pub between : List Item
  pub tag : Tag
  pub word : ℕ
  pub rest : List Item
  pub is : behind ≡ between ++ Arinc bus channel tag word ∷ rest
  pub no_notice : All (λ i. is_notice_of bus channel i ≡ false) between

-- the item k of a row is an open notice: one that finds no word, "or the end" comes
pub record OpenAt (is : List Item) (k : ℕ) : Type 0 where
  pub before : List Item
  pub bus : ℕ
  pub channel : ℕ
  pub diagnostics : ℕ
  pub behind : List Item
  pub is_here : is ≡ before ++ Notice bus channel diagnostics ∷ behind
  pub number : length before ≡ k
  pub finds_none : FindsWord bus channel behind → ⊥

-- ---- the items behind a notice

own : (bus c : ℕ) → (eqb bus bus && eqb c c) ≡ true
own bus c = rw (eq-eqb bus bus refl, eq-eqb c c refl)

-- where a word is found the test says so
pub found_answered : (bus c : ℕ) (behind : List Item) → FindsWord bus c behind → unanswered bus c behind ≡ false
unfolding unanswered
found_answered bus c behind f = rw f.is (go f.between f.no_notice)
  where
    go : (xs : List Item) → All (λ i. is_notice_of bus c i ≡ false) xs → unanswered bus c (xs ++ Arinc bus c f.tag f.word ∷ f.rest) ≡ false
    go [] nil = rw (own bus c)
    go (x ∷ xs) (cons q qs) = rw (q, go xs qs) (either (is_word_of bus c x))
      where
        either : (t : Bool) → cond t false (false || false) ≡ false
        either true = refl
        either false = refl

-- and only there
pub answered_found : (bus c : ℕ) (behind : List Item) → unanswered bus c behind ≡ false → FindsWord bus c behind
unfolding unanswered
answered_found bus c [] u = clash (sym u)
answered_found bus c (i ∷ is) u = one i u (answered_found bus c is)
  where
    past : (i : Item) → is_notice_of bus c i ≡ false → FindsWord bus c is → FindsWord bus c (i ∷ is)
    past i n f = record {
      between = i ∷ f.between;
      tag = f.tag;
      word = f.word;
      rest = f.rest;
      is = ap (λ (l : List Item). i ∷ l) f.is;
      no_notice = cons n f.no_notice;
    }

    word_one : (b d : ℕ) (tag : Tag) (w : ℕ) (t : Bool) → (eqb b bus && eqb d c) ≡ t → cond t false (false || unanswered bus c is) ≡ false
        → (unanswered bus c is ≡ false → FindsWord bus c is) → FindsWord bus c (Arinc b d tag w ∷ is)
    word_one b d tag w true e u ih =
        let a = and_true _ _ e in
        let x : b ≡ bus = eqb-true _ _ a.0 in
        let y : d ≡ c = eqb-true _ _ a.1 in
        record { between = []; tag = tag; word = w; rest = is; is = rw (x, y); no_notice = nil }
    word_one b d tag w false e u ih = past (Arinc b d tag w) refl (ih u)

    notice_one : (b d diag : ℕ) (t : Bool) → (eqb b bus && eqb d c) ≡ t → cond false false (t || unanswered bus c is) ≡ false
        → (unanswered bus c is ≡ false → FindsWord bus c is) → FindsWord bus c (Notice b d diag ∷ is)
    notice_one b d diag true e u ih = clash (sym u)
    notice_one b d diag false e u ih = past (Notice b d diag) e (ih u)

    one : (i : Item) → cond (is_word_of bus c i) false (is_notice_of bus c i || unanswered bus c is) ≡ false
        → (unanswered bus c is ≡ false → FindsWord bus c is) → FindsWord bus c (i ∷ is)
    one (Command b s tag w) u ih = past (Command b s tag w) refl (ih u)
    one (Status b s resp w) u ih = past (Status b s resp w) refl (ih u)
    one (Data b s w) u ih = past (Data b s w) refl (ih u)
    one (BusError b s w) u ih = past (BusError b s w) refl (ih u)
    one (Arinc b d tag w) u ih = word_one b d tag w (eqb b bus && eqb d c) refl u ih
    one (Notice b d diag) u ih = notice_one b d diag (eqb b bus && eqb d c) refl u ih
    one (User b three w) u ih = past (User b three w) refl (ih u)
    one (Overflow b w) u ih = past (Overflow b w) refl (ih u)

-- ---- the earliest open notice

-- what first_open finds is an open notice
pub first_open_lem : (is : List Item) → first_open is < length is → OpenAt is (first_open is)
unfolding first_open
first_open_lem [] h = absurd (omega arith)
first_open_lem (i ∷ is) h = one i h (first_open_lem is)
  where
    next : (i : Item) → OpenAt is (first_open is) → OpenAt (i ∷ is) (1 + first_open is)
    next i o = record {
      before = i ∷ o.before;
      bus = o.bus;
      channel = o.channel;
      diagnostics = o.diagnostics;
      behind = o.behind;
      is_here = ap (λ (l : List Item). i ∷ l) o.is_here;
      number = omega (arith, o.number);
      finds_none = o.finds_none;
    }

    on : (i : Item) → 1 + first_open is < suc (length is) → (first_open is < length is → OpenAt is (first_open is)) → OpenAt (i ∷ is) (1 + first_open is)
    on i h ih = next i (ih (omega arith))

    note : (b d diag : ℕ) (t : Bool) → unanswered b d is ≡ t → cond t 0 (1 + first_open is) < suc (length is) → (first_open is < length is → OpenAt is (first_open is))
        → OpenAt (Notice b d diag ∷ is) (cond t 0 (1 + first_open is))
    note b d diag true u h ih = record {
      before = [];
      bus = b;
      channel = d;
      diagnostics = diag;
      behind = is;
      is_here = refl;
      number = refl;
      finds_none = λ f. clash (sym (found_answered b d is f) ∙ u);
    }
    note b d diag false u h ih = on (Notice b d diag) h ih

    one : (i : Item) → cond (is_open i is) 0 (1 + first_open is) < suc (length is) → (first_open is < length is → OpenAt is (first_open is)) → OpenAt (i ∷ is) (cond (is_open i is) 0 (1 + first_open is))
    one (Command b s tag w) h ih = on _ h ih
    one (Status b s resp w) h ih = on _ h ih
    one (Data b s w) h ih = on _ h ih
    one (BusError b s w) h ih = on _ h ih
    one (Arinc b d tag w) h ih = on _ h ih
    one (Notice b d diag) h ih = note b d diag (unanswered b d is) refl h ih
    one (User b three w) h ih = on _ h ih
    one (Overflow b w) h ih = on _ h ih

earliest : (xs : List Item) (bus c diag : ℕ) (ys : List Item) → unanswered bus c ys ≡ true → first_open (xs ++ Notice bus c diag ∷ ys) ≤ length xs
unfolding first_open
earliest [] bus c diag ys u = rw u (omega arith)
earliest (x ∷ xs) bus c diag ys u = go (is_open x (xs ++ Notice bus c diag ∷ ys)) (earliest xs bus c diag ys u)
  where
    go : (t : Bool) → first_open (xs ++ Notice bus c diag ∷ ys) ≤ length xs → cond t 0 (1 + first_open (xs ++ Notice bus c diag ∷ ys)) ≤ suc (length xs)
    go true h = omega arith
    go false h = omega arith

-- and no open notice stands before it
pub none_earlier : (is : List Item) (k : ℕ) → OpenAt is k → first_open is ≤ k
none_earlier is k o = rw (o.is_here, ← o.number) (go (unanswered o.bus o.channel o.behind) refl)
  where
    go : (t : Bool) → unanswered o.bus o.channel o.behind ≡ t → first_open (o.before ++ Notice o.bus o.channel o.diagnostics ∷ o.behind) ≤ length o.before
    go true u = earliest o.before o.bus o.channel o.diagnostics o.behind u
    go false u = absurd (o.finds_none (answered_found o.bus o.channel o.behind u))

-- it is one of the items
open_within : (is : List Item) (k : ℕ) → OpenAt is k → k < length is
open_within is k o =
    let n : length is ≡ length o.before + suc (length o.behind) = ap length o.is_here ∙ length-append o.before (Notice o.bus o.channel o.diagnostics ∷ o.behind) in
    omega (arith, o.number)

-- where first_open finds none, none is open; and conversely
pub none_open : (is : List Item) → Answered is → (k : ℕ) → OpenAt is k → ⊥
none_open is e k o = omega (arith, open_within is k o, none_earlier is k o)

pub all_answered : (is : List Item) → ((k : ℕ) → OpenAt is k → ⊥) → Answered is
all_answered is h = go (eqb (first_open is) (length is)) refl
  where
    go : (t : Bool) → eqb (first_open is) (length is) ≡ t → Answered is
    go true e = eqb-true _ _ e
    go false e =
        let other : (first_open is ≡ length is → ⊥) = eqb-false (first_open is) (length is) e in
        absurd (h (first_open is) (first_open_lem is (omega (arith, first_within is, other))))

-- then each notice finds its word
pub notice_finds : (xs : List Item) (bus c diag : ℕ) (ys : List Item) → Answered (xs ++ Notice bus c diag ∷ ys) → FindsWord bus c ys
notice_finds xs bus c diag ys e = go (unanswered bus c ys) refl
  where
    go : (t : Bool) → unanswered bus c ys ≡ t → FindsWord bus c ys
    go true u = absurd (omega (arith, earliest xs bus c diag ys u, e, length-append xs (Notice bus c diag ∷ ys)))
    go false u = answered_found bus c ys u
