-- The words of a log's items from a bit on, as far as they are laid into a row.
use Rattle.std.specs.Prelude.{ℕ, zero, suc, ◌+◌, ◌/◌, ◌%◌, ◌^◌, cond, List, [], ◌∷◌, ◌++◌, length, eqb}
use Rattle.format.specs.Bits.{bytes_bits}
use Rattle.format.specs.Item.{high_label, item_words, low_label, sided}
use Rattle.format.specs.Log.{Next, ends, has, wrong, next_at}
use Rattle.format.specs.Word.{word_of}
use Rattle.format.specs.declared.Item.{Item}
use Rattle.format.specs.declared.Item.TheVariants.{Command, Status, Data, BusError, Arinc, Notice, User, Overflow}

-- the words of an item before its tag; they are laid before the tag is looked at
abbrev pub before_tag : Item → List ℕ
before_tag (Command bus b tag word) = word_of bus (sided 15 b) word ∷ []
before_tag (Status bus b response word) = []
before_tag (Data bus b word) = []
before_tag (BusError bus b word) = []
before_tag (Arinc bus c tag word) = word_of bus (high_label c) (word / 2 ^ 16) ∷ word_of bus (low_label c) (word % 2 ^ 16) ∷ []
before_tag (Notice bus c diag) = []
before_tag (User bus three word) = []
before_tag (Overflow bus word) = []

-- what an item leaves in the row that is refused by this number
abbrev pub left_by : ℕ → Item → List ℕ
left_by number i = cond (eqb number 4) (before_tag i) []

-- the words from a bit on, up to the log's end or its first fault; the first number bounds how many items there can be
abbrev pub words_next : (Item → ℕ) → (ℕ → List ℕ) → Next → List ℕ
words_next check rest ends = []
words_next check rest (has i q) = cond (eqb (check i) 0) (item_words i ++ rest q) (left_by (check i) i)
words_next check rest wrong = []

unfoldable pub words_by : ℕ → (Item → ℕ) → List ℕ → ℕ → List ℕ
words_by zero check log p = []
words_by (suc f) check log p = words_next check (words_by f check log) (next_at (bytes_bits log) p)

unfoldable pub words_from : (Item → ℕ) → List ℕ → ℕ → List ℕ
words_from check log p = words_by (length log + 1) check log p
