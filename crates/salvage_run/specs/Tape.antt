-- What a salvage carries from word to word, and what each does to it and to the two arrays, the log that is built and the report.
use Rattle.std.specs.Prelude.{ℕ, ◌+◌, ◌*◌, ◌^◌, ◌<◌, ◌≤◌, Bool, cond, List, [], ◌∷◌, ◌++◌, map, length, set, take, drop, ltb}
use Rattle.format.specs.Plan.{stored_at}
use Rattle.format.specs.Word.{bus_of, label_of, info_of, is_fill}
use Rattle.format.specs.Reader.{feed}
use Rattle.format.specs.Read.{finish}
use Rattle.format.specs.declared.Kind.{Kind}
use Rattle.format.specs.declared.Plan.{Plan}
use Rattle.format.specs.declared.Held.{Held}
use Rattle.format.specs.declared.Held.TheVariants.{Nothing}
use Rattle.salvage_rules.specs.Salvage.{held_words, last_of, entry_number, lost_group}
use Rattle.data_start.specs.declared.Step.{Step}
use Rattle.data_start.specs.Holding.{flat}
use Rattle.data_word.specs.Holding.{held_of, Sane}
use Rattle.data_word.specs.Step.{closing, step_of}
use Rattle.data_put.specs.Put.{step_pen, step_out}
use Rattle.log_write.specs.Pen.{start}
use Rattle.salvage_run.specs.declared.Last.{Last}
use Rattle.salvage_run.specs.declared.Pass.{Pass}

-- ---- the words of what is held

-- a command's 26 bits are less than 2 ^ 32, an ARINC word's 43 are not
abbrev pub base_words_of : ℕ → ℕ
base_words_of base = cond (ltb base 4294967296) 1 2

abbrev pub numbers_of : Last → List ℕ
numbers_of l = l.first ∷ l.second ∷ l.third ∷ l.fourth ∷ []

-- one word more
abbrev pub shifted : Last → ℕ → Last
shifted l number = record { first = l.second; second = l.third; third = l.fourth; fourth = number }

-- each below a number
pub record Low (n : ℕ) (l : Last) : Type 0 where
  pub first_low : l.first < n
  pub second_low : l.second < n
  pub third_low : l.third < n
  pub fourth_low : l.fourth < n

-- where the last words stand, so many of them
abbrev pub places_of : Plan → ℕ → Last → List ℕ
places_of p words l = map (stored_at p) (last_of words (numbers_of l))

-- and those of what is held
abbrev pub held_places : Plan → Pass → List ℕ
held_places p x = places_of p (held_words (held_of x.held)) x.last

-- ---- numbers put into a row, as far as there is room

abbrev pub put_at : List ℕ → ℕ → ℕ → List ℕ
put_at row at n = cond (ltb at (length row)) (set row at n) row

unfoldable pub put_all : List ℕ → ℕ → List ℕ → List ℕ
put_all row at [] = row
put_all row at (n ∷ ns) = put_all (put_at row at n) (at + 1) ns

-- all of them from the front
abbrev pub laid : List ℕ → List ℕ → List ℕ
laid ns old = take (length old) ns ++ drop (length ns) old

-- ---- one step

-- what is carried, and both arrays
pub record Tape : Type 0 where
  pub pass : Pass
  pub out : List ℕ
  pub report : List ℕ

abbrev pub tape : Pass → List ℕ → List ℕ → Tape
tape x out report = record { pass = x; out = out; report = report }

abbrev pub start_pass : Pass
start_pass = record { held = flat Nothing; last = record { first = 0; second = 0; third = 0; fourth = 0 }; pen = start; entries = 0 }

-- numbers are reported, and nothing is held
abbrev pub told : List ℕ → Tape → Tape
told ns t = record {
  pass = record { held = flat Nothing; last = t.pass.last; pen = t.pass.pen; entries = t.pass.entries + length ns };
  out = t.out;
  report = put_all t.report t.pass.entries ns;
}

-- a step's items are put, and what it holds is held; these are the last words then
abbrev pub put : Step → Last → Tape → Tape
put s l t = record {
  pass = record { held = s.held; last = l; pen = step_pen t.pass.pen s; entries = t.pass.entries };
  out = step_out t.out t.pass.pen s;
  report = t.report;
}

-- what is held is dropped
abbrev pub drop_held : Plan → Tape → Tape
drop_held p t = told (held_places p t.pass) t

-- no word continues what is held: it is finished, or dropped
abbrev pub freed : Pass → Step
freed x = closing (held_of x.held) (finish (held_of x.held) 0)

unfoldable pub let_go : Plan → Tape → Tape
let_go p t = cond (freed t.pass).bad (drop_held p t) (put (freed t.pass) t.pass.last t)

-- what a word brings to what is held
unfoldable pub word_step : List Kind → Bool → Held → ℕ → Step
word_step ks parity h word = step_of h (feed ks h (bus_of parity word) (label_of word) (info_of word))

-- a word that is taken
abbrev pub taken : ℕ → Step → Tape → Tape
taken number s t = put s (shifted t.pass.last number) t

-- a word tried as a start, nothing being held
unfoldable pub try_start : List Kind → Plan → ℕ → ℕ → Tape → Tape
try_start ks p number word t =
    cond (word_step ks p.parity Nothing word).bad (told (stored_at p number ∷ []) t) (taken number (word_step ks p.parity Nothing word) t)

-- a data word
unfoldable pub on_word : List Kind → Plan → ℕ → ℕ → Tape → Tape
on_word ks p number word t =
    cond (word_step ks p.parity (held_of t.pass.held) word).bad (try_start ks p number word (let_go p t))
    (taken number (word_step ks p.parity (held_of t.pass.held) word) t)

-- words, the first of them the number `from`; fill is dropped
unfoldable pub on_row : List Kind → Plan → ℕ → List ℕ → Tape → Tape
on_row ks p from [] t = t
on_row ks p from (w ∷ ws) t = on_row ks p (from + 1) ws (cond (is_fill w) t (on_word ks p from w t))

-- a dropped group: what is held, and then the group
unfoldable pub drop_group : Plan → ℕ → ℕ → Tape → Tape
drop_group p number g t = told (held_places p t.pass ++ entry_number (lost_group number g) ∷ []) t

-- ---- what is carried behind n words

pub record Sound (n : ℕ) (x : Pass) : Type 0 where
  pub sane : Sane x.held
  pub low : Low (n + 1) x.last
  pub few_bits : x.pen.bits ≤ 256 * n
  pub few_entries : x.entries ≤ 8 * n
