-- Label 3 and code 0: every answer and every byte is as before the plan had its last two lines.
use Prim.Native.Nat.{ℕ, zero, suc, ◌+◌, ◌*◌, ◌/◌, ◌%◌}
use Rattle.std.specs.Prelude.{Bool, cond, ◌&&◌, ◌||◌, not, ◌≡◌, length, eqb, leb}
use Rattle.std.proofs.Math.Bool.{true, false}
use Rattle.std.proofs.Math.Path.{refl, ap}
use Rattle.std.proofs.Common.{sym, ◌∙◌}
use mathlib.Core.List.{List, [], ◌∷◌, ◌++◌, flat_map}
use Rattle.format.specs.Plan.{legal, group_words}
use Rattle.format.specs.Word.{fill, bytes_of}
use Rattle.format.specs.Lists.{list}
use Rattle.format.specs.Check.{check_word}
use Rattle.format.specs.Log.{Parsed, items, fault, parsed, on_plan, log_of}
use Rattle.format.specs.Item.{item_words}
use Rattle.format.specs.Reader.{Slot, Ran, bad_at, ran, run}
use Rattle.format.specs.Group.{frame, group, fault_at, stored_fault, group_fault, time_fault, group_slots, Fault, none, or_else, first_of}
use Rattle.format.specs.Compose.{composed, compose_parsed, compose_words, capture_of, groups_for, dealt_for, Composed, made, refused}
use Rattle.format.specs.Read.{reading, read_groups, settled, misplaced, misplaced_in, Got, got, stopped, before, onward, if_sound, any_data, Reading, refuses, roomed, unless_found, open_in}
use Rattle.format.specs.Before as was
use Rattle.format.specs.Before.{plain}
use Rattle.format.specs.Laws.Lists.{list_same}
use Rattle.format.specs.declared.Kind.{Kind}
use Rattle.format.specs.declared.Plan.{Plan}
use Rattle.format.specs.declared.Item.{Item}
use Rattle.format.specs.declared.Held.{Held}
use Rattle.format.specs.declared.Held.TheVariants.{Nothing}

flat_same : {A B : Type 0} (f g : A → List B) (l : List A) → ((a : A) → f a ≡ g a) → flat_map f l ≡ flat_map g l
unfolding flat_map
flat_same f g [] e = refl
flat_same f g (a ∷ l) e = rw (e a, flat_same f g l e)

module _ (words tracks : ℕ) (time crc parity : Bool) where
  abbrev p : Plan
  p = plain words tracks time crc parity

  pub legal_same : (ks : List Kind) → legal p ks ≡ was.legal p ks
  unfolding legal was.legal
  legal_same ks = go (was.legal p ks) parity
    where
      go : (t u : Bool) → (t && true && true && (not u || true)) ≡ t
      go true true = refl
      go true false = refl
      go false u = refl

  frame_same : (dealt : List ℕ) (t : ℕ) → frame p dealt t ≡ was.frame p dealt t
  unfolding frame was.frame check_word was.check_word fill was.fill
  frame_same dealt t = refl

  group_same : (dealt : List ℕ) → group p dealt ≡ was.group p dealt
  unfolding group was.group
  group_same dealt = flat_same (frame p dealt) (was.frame p dealt) _ (frame_same dealt)

  capture_same : (times ws : List ℕ) → capture_of p times ws ≡ was.capture_of p times ws
  unfolding capture_of was.capture_of
  capture_same times ws =
      ap (flat_map bytes_of)
      (flat_same (λ (g : ℕ). group p (dealt_for p times ws g)) (λ (g : ℕ). was.group p (dealt_for p times ws g)) (list (λ g. g) 0 (groups_for p (length ws))) (λ g. group_same (dealt_for p times ws g)))

  words_same : (times : List ℕ) (room : ℕ) (ws : List ℕ) → compose_words p times room ws ≡ was.compose_words p times room ws
  unfolding compose_words was.compose_words
  words_same times room ws = rw (capture_same times ws)

  parsed_same : (times : List ℕ) (room : ℕ) (r : Parsed) → compose_parsed p times room r ≡ was.compose_parsed p times room r
  parsed_same times room (items is) = rw (words_same times room (flat_map item_words is))
  parsed_same times room (fault n q) = refl

  pub composed_same : (ks : List Kind) (log times : List ℕ) (room : ℕ) → composed p ks log times room ≡ was.composed p ks log times room
  unfolding composed was.composed
  composed_same ks log times room = rw (legal_same ks, parsed_same times room (parsed (on_plan ks) log))

  fault_same : (c : List ℕ) (at j : ℕ) → fault_at p c at j ≡ was.fault_at p c at j
  unfolding fault_at was.fault_at check_word was.check_word
  fault_same c at zero = refl
  fault_same c at (suc j) = refl

  stored_same : (c : List ℕ) (at : ℕ) → stored_fault p c at ≡ was.stored_fault p c at
  unfolding stored_fault was.stored_fault
  stored_same c at =
      ap first_of
      (flat_same (λ (t : ℕ). list (fault_at p c (at + t * words)) 0 words) (λ (t : ℕ). list (was.fault_at p c (at + t * words)) 0 words) (list (λ t. t) 0 tracks)
      (λ t. list_same (fault_at p c (at + t * words)) (was.fault_at p c (at + t * words)) words 0 0 (λ i l. fault_same c (at + t * words) (0 + i))))

  group_fault_same : (c : List ℕ) (at : ℕ) → group_fault p c at ≡ was.group_fault p c at
  unfolding group_fault was.group_fault
  group_fault_same c at = rw (stored_same c at)

  onward_same : (r : Ran) (k l : Held → ℕ → Got) → ((h : Held) (at : ℕ) → k h at ≡ l h at) → onward r k ≡ onward r l
  onward_same (bad_at q s) k l e = refl
  onward_same (ran is h at) k l e = ap (before is) (e h at)

  groups_same : (ks : List Kind) (c : List ℕ) (n g : ℕ) (h : Held) (at : ℕ) → read_groups p ks c n g h at ≡ was.read_groups p ks c n g h at
  unfolding read_groups was.read_groups
  groups_same ks c zero g h at = refl
  groups_same ks c (suc n) g h at =
      rw (group_fault_same c (g * group_words p))
      (ap (if_sound (was.group_fault p c (g * group_words p))) (onward_same (run ks parity (group_slots p c (g * group_words p)) h at) _ _ (λ h' at'. groups_same ks c n (g + 1) h' at')))

  in_same : (ss later : List Slot) (near : Bool) (rest : Fault) → misplaced_in p ss later near rest ≡ was.misplaced_in p ss later near rest
  unfolding misplaced_in was.misplaced_in
  in_same [] later near rest = refl
  in_same (s ∷ ss) later near rest = rw (in_same ss later near rest)

  misplaced_same : (gs : List (List Slot)) → misplaced p gs ≡ was.misplaced p gs
  unfolding misplaced was.misplaced
  misplaced_same [] = refl
  misplaced_same (ss ∷ gs) = rw (misplaced_same gs) (in_same ss _ _ _)

  settled_same : (c : List ℕ) (n log_room time_room : ℕ) (closed : Bool) (g : Got) → settled p c n log_room time_room closed g ≡ was.settled p c n log_room time_room closed g
  settled_same c n log_room time_room closed (got is) = rw (misplaced_same (list (λ g. group_slots p c (g * group_words p)) 0 n))
  settled_same c n log_room time_room closed (stopped k at second) = refl

  pub reading_same : (closed : Bool) (ks : List Kind) (c : List ℕ) (log_room time_room : ℕ) → reading closed p ks c log_room time_room ≡ was.reading closed p ks c log_room time_room
  unfolding reading was.reading
  reading_same closed ks c log_room time_room =
      rw (legal_same ks, groups_same ks c (length c / (3 * group_words p)) 0 Nothing 0)
      (rw (settled_same c (length c / (3 * group_words p)) log_room time_room closed (was.read_groups p ks c (length c / (3 * group_words p)) 0 Nothing 0)))
