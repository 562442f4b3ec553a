-- The word at hand, and the item that begins with it.
use Prim.Native.Nat.{ℕ, ◌+◌, ◌*◌, ◌-◌, ◌/◌, ◌%◌, ◌^◌, ◌≤◌, ◌<◌}
use native.Mathlib.Omega.{arith}
use mathlib.Core.Bool.{Bool, true, false, ◌&&◌}
use mathlib.Core.Path.{◌≡◌, refl, sym, ap, subst, ◌∙◌}
use mathlib.Core.List.{List, []}
use lib.ListN.{length, get_or}
use lib.Dec.{eqb, ltb}
use borrow.Author.Tests.{eqb-true, ltb-true}
use Rattle.format.specs.Word.{is_fill, bus_of, label_of, info_of}
use Rattle.format.specs.Item.{item_fields}
use Rattle.format.specs.Plan.{kind_on}
use Rattle.format.specs.Reader.{fed, is_pair, starts, with_tag, base_bus}
use Rattle.format.specs.declared.Kind.{Kind}
use Rattle.format.specs.declared.Kind.TheVariants.{Mil1553, Arinc429}
use Rattle.format.specs.declared.Base.{Base}
use Rattle.format.specs.declared.Base.TheVariants as base
use Rattle.format.specs.declared.Held.TheVariants.{Nothing, Taggable, Half}
use Rattle.format.specs.declared.Tag.TheVariants.{Untagged}
use Rattle.format.specs.Laws.Tests.{and_true}
use Rattle.log_write.specs.declared.Pen.{Pen}
use Rattle.log_write.specs.Pen.{pen_in, pen_put}
use Rattle.data_start.specs.declared.Holding.{Holding}
use Rattle.data_start.specs.declared.Step.{Step}
use Rattle.data_start.specs.Holding.{flat, number_of}
use Rattle.data_start.specs.Opening.{opens}
use Rattle.data_start.specs.Step.{begun, ended}
use Rattle.data_start.proofs.Openers as openers
use Rattle.data_start.proofs.Begun.{notice_ends}
use Rattle.data_items.specs.declared.Taken.{Taken}
use Rattle.data_items.specs.Row.{top_of, parity_of, tag_at, tag_of}
use Rattle.data_items.specs.Taken.{Here, Opened, Took}
use Rattle.data_items.proofs.Words.{bus_is, bus_low, info_is, info_low, label_is, label_low}
use Rattle.data_items.proofs.Row.{Goes, goes_bare, goes_tag, tagged}
use Rattle.data_items.proofs.First.{answer_of, channel, command_starts, command_of, goes_arinc, goes_command, goes_status, syllable_starts}
use Rattle.data_items.proofs.Strings.{Both, Says, arinc_bits, arinc_tag_bits, command_bits, command_tag_bits, status_bits}
use Rattle.data_items.proofs.Spot.{Spot, alone_here, alone_taken, bus_here, info_here, kind_here, label_here, says_here, top_below}
use Rattle.data_items.proofs.Taking.{put_puts, puts_then, took_item, took_none}

-- ---- what may have a tag

module _ {ks : List Kind} {parity : Bool} {row : List ℕ} {t : Taken} (x : Base) (j n : ℕ) (g : Goes ks parity row t.slot j [] (Taggable x) t.slot)
    (some : t.slot < j) (short : n ≤ 56) where
  -- without one
  pub bare_taken : {v : ℕ} {out out' : List ℕ} {pen' : Pen} → j < length row → is_fill (get_or row j 0) ≡ false → (top_of parity (get_or row j 0) ≡ base_bus x * 16 + 7 → ⊥)
      → Says n v (with_tag x Untagged) → n ≤ 32 * (j - t.slot) → (pen' ≡ pen_put t.pen v n) × (out' ≡ pen_in out t.pen v n)
      → Took ks parity row t out (record { slot = j; pen = pen' }) out'
  bare_taken room nf e s few p =
      let z : j - 1 + 1 ≡ j = omega arith in
      took_item (goes_bare ks parity row x g room nf (λ y. e (sym y)) (j - 1)) z some (omega arith) (put_puts short s.fits p) s.is few

  -- with its three words
  pub tag_taken : {v : ℕ} {out₀ out₁ out₂ : List ℕ} {p q : Pen} → j + 3 ≤ length row → top_of parity (get_or row j 0) ≡ base_bus x * 16 + 7
      → tag_at parity row j (base_bus x * 16 + 7) ≡ true
      → Both n v 46 (tag_of (get_or row j 0) (get_or row (j + 1) 0) (get_or row (j + 2) 0)) (with_tag x (tagged (get_or row j 0) (get_or row (j + 1) 0) (get_or row (j + 2) 0)))
      → n + 46 ≤ 32 * (j + 3 - t.slot) → (p ≡ pen_put t.pen v n) × (out₁ ≡ pen_in out₀ t.pen v n)
      → (q ≡ pen_put p (tag_of (get_or row j 0) (get_or row (j + 1) 0) (get_or row (j + 2) 0)) 46) ×
      (out₂ ≡ pen_in out₁ p (tag_of (get_or row j 0) (get_or row (j + 1) 0) (get_or row (j + 2) 0)) 46)
      → Took ks parity row t out₀ (record { slot = j + 3; pen = q }) out₂
  tag_taken room a e s few put₁ put₂ =
      let o : ℕ = base_bus x * 16 + 7 in
      let w₁ : ℕ = get_or row (j + 1) 0 in
      let w₂ : ℕ = get_or row (j + 2) 0 in
      let h = and_true (eqb (top_of parity w₁ + 1) o) (eqb (top_of parity w₂ + 2) o && ltb (w₂ % 65536) 10000) e in
      let k = and_true (eqb (top_of parity w₂ + 2) o) (ltb (w₂ % 65536) 10000) h.1 in
      let b : top_of parity w₁ + 1 ≡ o = eqb-true _ _ h.0 in
      let c : top_of parity w₂ + 2 ≡ o = eqb-true _ _ k.0 in
      let low : info_of w₂ < 10000 = subst (λ (m : ℕ). m < 10000) (info_is w₂) (ltb-true _ _ k.1) in
      let z : j + 2 + 1 ≡ j + 3 = omega arith in
      took_item (goes_tag ks parity row x g room a (omega arith) (omega arith) low) z (omega arith) room
      (puts_then (put_puts short s.first_fits put₁) (put_puts (omega arith) s.second_fits put₂)) s.is few

-- low words of a tag
pub tag_low : (parity : Bool) (row : List ℕ) (j awaits : ℕ) → tag_at parity row j awaits ≡ true → info_of (get_or row (j + 2) 0) < 10000
tag_low parity row j awaits e =
    let w₁ : ℕ = get_or row (j + 1) 0 in
    let w₂ : ℕ = get_or row (j + 2) 0 in
    let h = and_true (eqb (top_of parity w₁ + 1) awaits) (eqb (top_of parity w₂ + 2) awaits && ltb (w₂ % 65536) 10000) e in
    let k = and_true (eqb (top_of parity w₂ + 2) awaits) (ltb (w₂ % 65536) 10000) h.1 in
    subst (λ (m : ℕ). m < 10000) (info_is w₂) (ltb-true _ _ k.1)

-- there is room for the second string
pub room_behind : (p : Pen) (out : List ℕ) {p' : Pen} {v n : ℕ} {out' : List ℕ} → n ≤ 56 → v < 2 ^ n → (p' ≡ pen_put p v n) × (out' ≡ pen_in out p v n) → p.bits < 2 ^ 60
    → p.bits + 224 ≤ 8 * length out
    → (p'.bits < 2 ^ 62) × (p'.bits / 8 + 8 ≤ length out')
room_behind p out n f e few room = let a = put_puts n f e in (omega (arith, a.bits), omega (arith, a.bits, a.long))

zero_low : info_of 0 < 10000
unfolding info_of
zero_low = omega arith

-- ---- the word at hand

module _ {tops : ℕ} {row : List ℕ} {t : Taken} {word top : ℕ} {out : List ℕ} (here : Here tops row t word top out) where
  abbrev parity : Bool
  parity = parity_of tops

  abbrev w : ℕ
  w = get_or row t.slot 0

  abbrev h : Spot (parity_of tops) row t.slot word top
  h = record { within = omega (arith, here.five); low = here.words t.slot (omega (arith, here.five)); is = here.is; says = here.says }

  pub top_low : top < 256
  top_low = top_below h

  pub here_none : {ks : List Kind} → Took ks parity row t out t out
  here_none = took_none t out (omega (arith, here.five))

  -- a word further on
  pub low_at : (i : ℕ) → i < 5 → get_or row (t.slot + i) 0 < 2 ^ 24
  low_at i l = here.words (t.slot + i) (omega (arith, here.five))

  -- what it opens
  pub opened_says : {n : ℕ} (o : Opened n (top % 16)) → openers.Says o.kind (top % 16) n
  opened_says o = rw o.is (openers.opens_says o.kind (top % 16) (omega arith))

  pub kind_says : (ks : List Kind) {n : ℕ} → n ≡ opens (kind_on ks (bus_of parity word)) (label_of word) → openers.Says (kind_on ks (bus_of parity word)) (label_of word) n
  kind_says ks e = rw e (openers.opens_says (kind_on ks (bus_of parity word)) (label_of word) (label_low word))

  -- ---- a command

  module _ {r : Step} (l : 8 ≤ top % 16) (m : top % 16 % 4 ≡ 3) (e : (g : Holding) → r ≡ begun g 0 0 (starts Mil1553 (top / 16) (top % 16) (word % 65536))) where
    abbrev pub the_command : Base
    the_command = command_of (bus_of parity w) (label_of w) (info_of w)

    command_base : r.held.base ≡ number_of 0 (item_fields (with_tag the_command Untagged))
    command_base =
        let f = command_starts (bus_of parity w) (info_of w) (label_of w) (rw (label_here h) at l) (label_low w) (rw (label_here h) at m) in
        let s : r ≡ begun (flat Nothing) 0 0 (fed [] (Taggable the_command)) = e (flat Nothing) ∙ rw (bus_here h, label_here h, info_here h)
        (ap (begun (flat Nothing) 0 0) f) in
        ap (λ (s : Step). s.held.base) s

    pub command_says : Says 26 r.held.base (with_tag the_command Untagged)
    command_says = subst (λ (v : ℕ). Says 26 v (with_tag the_command Untagged)) (sym command_base)
        (command_bits (bus_of parity w) (bus_low parity w h.low) (eqb (label_of w) 11) (info_of w) (info_low w))

    pub command_tag_says : (a b u : ℕ) → info_of u < 10000 → Both 26 (r.held.base + 65536) 46 (tag_of a b u) (with_tag the_command (tagged a b u))
    command_tag_says a b u low =
        subst (λ (v : ℕ). Both 26 (v + 65536) 46 (tag_of a b u) (with_tag the_command (tagged a b u))) (sym command_base)
        (command_tag_bits (bus_of parity w) (bus_low parity w h.low) (eqb (label_of w) 11) (info_of w) (info_low w) a b u low)

    pub command_goes : {ks : List Kind} → kind_on ks (bus_of parity word) ≡ Mil1553 → Goes ks parity row t.slot (t.slot + 1) [] (Taggable the_command) t.slot
    command_goes {ks} k = goes_command ks parity row t.slot (omega (arith, here.five)) (kind_here h ks k) (rw (label_here h) at l) (rw (label_here h) at m)

    pub command_marked : r.held.base + 65536 < 2 ^ 26
    command_marked = (command_tag_says 0 0 0 zero_low).first_fits

    module _ (ks : List Kind) (k : kind_on ks (bus_of parity word) ≡ Mil1553) {then : ℕ} (o : then ≡ top_of parity (get_or row (t.slot + 1) 0)) where
      pub command_bare : {out' : List ℕ} {pen' : Pen} → (then ≡ top / 16 * 16 + 7 → ⊥) → is_fill (get_or row (t.slot + 1) 0) ≡ false
          → (pen' ≡ pen_put t.pen r.held.base 26) × (out' ≡ pen_in out t.pen r.held.base 26) → Took ks parity row t out
          (record { slot = t.slot + 1; pen = pen' }) out'
      command_bare n nf p =
          bare_taken the_command (t.slot + 1) 26 (command_goes k) (omega arith) (omega arith) (omega (arith, here.five)) nf (λ y. n (o ∙ rw (bus_here h) y))
          command_says (omega arith) p

      pub command_tagged : {is : Bool} {tag : ℕ} {out₁ out₂ : List ℕ} {p q : Pen} → then ≡ top / 16 * 16 + 7 → is ≡ tag_at parity row (t.slot + 1) (top / 16 * 16 + 7) →
          is ≡ true
          → tag ≡ tag_of (get_or row (t.slot + 1) 0) (get_or row (t.slot + 1 + 1) 0) (get_or row (t.slot + 1 + 2) 0)
          → (p ≡ pen_put t.pen (r.held.base + 65536) 26) × (out₁ ≡ pen_in out t.pen (r.held.base + 65536) 26)
          → (q ≡ pen_put p tag 46) × (out₂ ≡ pen_in out₁ p tag 46) → Took ks parity row t out (record { slot = t.slot + 1 + 3; pen = q }) out₂
      command_tagged i a b f p q =
          let j : ℕ = t.slot + 1 in
          let z = rw (bus_here h) at (sym a ∙ b) in
          tag_taken the_command j 26 (command_goes k) (omega arith) (omega arith) (omega (arith, here.five)) (sym o ∙ i ∙ rw (bus_here h) refl) z
          (command_tag_says (get_or row j 0) (get_or row (j + 1) 0) (get_or row (j + 2) 0) (tag_low parity row j (top / 16 * 16 + 7) (sym a ∙ b))) (omega arith) p (rw f at q)

  -- ---- an ARINC word

  module _ {r : Step} (l : 8 ≤ top % 16) (m : top % 16 % 2 ≡ 1) (e : (g : Holding) → r ≡ begun g 0 0 (starts Arinc429 (top / 16) (top % 16) (word % 65536))) where
    abbrev pub second : ℕ
    second = get_or row (t.slot + 1) 0

    abbrev pub the_arinc : Base
    the_arinc = base.Arinc (bus_of parity w) (channel (label_of w)) (info_of w * 2 ^ 16 + info_of second)

    channel_low : channel (label_of w) < 4
    channel_low = omega (arith, label_low w)

    word_low : info_of w * 2 ^ 16 + info_of second < 2 ^ 32
    word_low = omega (arith, info_low w, info_low second)

    pub arinc_base : r.held.base * 65536 + second % 65536 ≡ number_of 0 (item_fields (with_tag the_arinc Untagged))
    unfolding item_fields
    arinc_base =
        let f = syllable_starts (bus_of parity w) (info_of w) (label_of w) (rw (label_here h) at l) (label_low w) (rw (label_here h) at m) in
        let s : r ≡ begun (flat Nothing) 0 0 (fed [] (Half (bus_of parity w) (channel (label_of w)) (info_of w))) = e (flat Nothing) ∙ rw
        (bus_here h, label_here h, info_here h) (ap (begun (flat Nothing) 0 0) f) in
        omega (arith, ap (λ (s : Step). s.held.base) s, info_is second)

    pub arinc_says : {v : ℕ} → v ≡ r.held.base * 65536 + second % 65536 → Says 43 v (with_tag the_arinc Untagged)
    arinc_says i =
        subst (λ (v : ℕ). Says 43 v (with_tag the_arinc Untagged)) (sym (i ∙ arinc_base))
        (arinc_bits (bus_of parity w) (bus_low parity w h.low) (channel (label_of w)) (info_of w * 2 ^ 16 + info_of second) channel_low word_low)

    pub arinc_tag_says : (a b u : ℕ) → info_of u < 10000 → {v : ℕ} → v ≡ r.held.base * 65536 + second % 65536 → Both 43 (v + 4294967296) 46 (tag_of a b u)
        (with_tag the_arinc (tagged a b u))
    arinc_tag_says a b u low i =
        subst (λ (v : ℕ). Both 43 (v + 4294967296) 46 (tag_of a b u) (with_tag the_arinc (tagged a b u))) (sym (i ∙ arinc_base))
        (arinc_tag_bits (bus_of parity w) (bus_low parity w h.low) (channel (label_of w)) (info_of w * 2 ^ 16 + info_of second) channel_low word_low a b u low)

    pub arinc_goes : {ks : List Kind} → kind_on ks (bus_of parity word) ≡ Arinc429 → top_of parity second + 1 ≡ top
        → Goes ks parity row t.slot (t.slot + 2) [] (Taggable the_arinc) t.slot
    arinc_goes {ks} k s = goes_arinc ks parity row t.slot (omega (arith, here.five)) (kind_here h ks k) (rw (label_here h) at l) (rw (label_here h) at m)
        (s ∙ says_here h)

    pub arinc_marked : {v : ℕ} → v ≡ r.held.base * 65536 + second % 65536 → v + 4294967296 < 2 ^ 43
    arinc_marked i = (arinc_tag_says 0 0 0 zero_low i).first_fits

    module _ (ks : List Kind) (k : kind_on ks (bus_of parity word) ≡ Arinc429) {v low : ℕ} (i : v ≡ r.held.base * 65536 + second % 65536) (s : low ≡ top_of parity second)
        (s' : low + 1 ≡ top)
        {then : ℕ} (o : then ≡ top_of parity (get_or row (t.slot + 2) 0)) where
      goes : Goes ks parity row t.slot (t.slot + 2) [] (Taggable the_arinc) t.slot
      goes = arinc_goes k (rw s at s')

      pub arinc_bare : {out' : List ℕ} {pen' : Pen} → (then ≡ top / 16 * 16 + 7 → ⊥) → is_fill (get_or row (t.slot + 2) 0) ≡ false
          → (pen' ≡ pen_put t.pen v 43) × (out' ≡ pen_in out t.pen v 43) → Took ks parity row t out (record { slot = t.slot + 2; pen = pen' }) out'
      arinc_bare n nf p =
          bare_taken the_arinc (t.slot + 2) 43 goes (omega arith) (omega arith) (omega (arith, here.five)) nf (λ y. n (o ∙ rw (bus_here h) y)) (arinc_says i)
          (omega arith) p

      pub arinc_tagged : {is : Bool} {tag : ℕ} {out₁ out₂ : List ℕ} {p q : Pen} → then ≡ top / 16 * 16 + 7 → is ≡ tag_at parity row (t.slot + 2) (top / 16 * 16 + 7) → is
          ≡ true
          → tag ≡ tag_of (get_or row (t.slot + 2) 0) (get_or row (t.slot + 2 + 1) 0) (get_or row (t.slot + 2 + 2) 0)
          → (p ≡ pen_put t.pen (v + 4294967296) 43) × (out₁ ≡ pen_in out t.pen (v + 4294967296) 43)
          → (q ≡ pen_put p tag 46) × (out₂ ≡ pen_in out₁ p tag 46) → Took ks parity row t out (record { slot = t.slot + 2 + 3; pen = q }) out₂
      arinc_tagged e₁ a b f p q =
          let j : ℕ = t.slot + 2 in
          let z = rw (bus_here h) at (sym a ∙ b) in
          tag_taken the_arinc j 43 goes (omega arith) (omega arith) (omega (arith, here.five)) (sym o ∙ e₁ ∙ rw (bus_here h) refl) z
          (arinc_tag_says (get_or row j 0) (get_or row (j + 1) 0) (get_or row (j + 2) 0) (tag_low parity row j (top / 16 * 16 + 7) (sym a ∙ b)) i) (omega arith) p (rw f at q)

  -- ---- a response and its status

  module _ (m : top % 16 ≡ 4) (low : word % 65536 < 10000) {then : ℕ} (e : then ≡ top_of parity (get_or row (t.slot + 1) 0)) (b : then / 16 ≡ top / 16) (l : 8 ≤ then % 16)
      (o : then % 4 ≡ 2) where
    abbrev status : ℕ
    status = get_or row (t.slot + 1) 0

    abbrev number : ℕ
    number = (((32 + top / 16) * 2 + (3 - then % 16 / 4)) * 131072 + 65536 + status % 65536) * 16384 + word % 65536

    status_label : then % 16 ≡ label_of status
    status_label = label_is parity status then e

    pub status_says : Says 40 number (answer_of (bus_of parity w) (info_of w) (label_of status) (info_of status))
    status_says =
        let q : label_of status % 4 ≡ 2 = omega (arith, status_label) in
        rw (bus_here h, status_label, info_here h, info_is status)
        (status_bits (bus_of parity w) (bus_low parity w h.low) (info_of w) (label_of status) (info_of status) (rw (info_here h) at low) (info_low status)
        (rw status_label at l) (label_low status) q)

    pub status_taken : (ks : List Kind) → kind_on ks (bus_of parity word) ≡ Mil1553 → {out' : List ℕ} {pen' : Pen}
        → (pen' ≡ pen_put t.pen number 40) × (out' ≡ pen_in out t.pen number 40) → Took ks parity row t out (record { slot = t.slot + 2; pen = pen' }) out'
    status_taken ks k p =
        let z : t.slot + 1 + 1 ≡ t.slot + 2 = omega arith in
        let q : label_of status % 4 ≡ 2 = omega (arith, status_label) in
        let d : bus_of parity status ≡ bus_of parity w = sym (bus_is parity status then e) ∙ b ∙ bus_here h in
        took_item
        (goes_status ks parity row t.slot (omega (arith, here.five)) (kind_here h ks k) (sym (label_here h) ∙ m) (rw (info_here h) at low) d (rw status_label at l) q)
        z (omega arith) (omega (arith, here.five)) (put_puts (omega arith) status_says.fits p) status_says.is (omega arith)

  -- ---- an error notice

  module _ {r : Step} (m : top % 16 ≡ 4) (i : is_pair (word % 65536 / 4096) (word % 65536 / 256 % 16) ≡ true)
      (e : (g : Holding) → r ≡ begun g 0 0 (starts Arinc429 (top / 16) 4 (word % 65536))) where
    notice_is : r ≡ ended 0 0 (((96 + top / 16) * 4 + (word % 65536 / 4096 - 8) / 2) * 256 + word % 65536 % 256) 18
    notice_is = e (flat Nothing) ∙ sym (notice_ends (flat Nothing) 0 0 (top / 16) (word % 65536) (omega arith) i)

    begins : r ≡ begun (flat Nothing) 0 0 (starts Arinc429 (top / 16) (top % 16) (word % 65536))
    begins = e (flat Nothing) ∙ rw m refl

    width : r.second_width ≡ 18
    width = ap (λ (s : Step). s.second_width) notice_is

    abbrev good : r.bad ≡ false
    good = ap (λ (s : Step). s.bad) notice_is

    abbrev none : r.held.awaits ≡ 0
    none = ap (λ (s : Step). s.held.awaits) notice_is

    abbrev first : r.first_width ≡ 0
    first = ap (λ (s : Step). s.first_width) notice_is

    pub notice_fits : r.second < 2 ^ 18
    notice_fits = subst (λ (n : ℕ). r.second < 2 ^ n) width (alone_here h begins good none first).fits

    pub notice_taken : (ks : List Kind) → kind_on ks (bus_of parity word) ≡ Arinc429 → {out' : List ℕ} {pen' : Pen}
        → (pen' ≡ pen_put t.pen r.second 18) × (out' ≡ pen_in out t.pen r.second 18) → Took ks parity row t out (record { slot = t.slot + 1; pen = pen' }) out'
    notice_taken ks k p = alone_taken h begins good none first ks k (omega (arith, width)) (rw width p)
