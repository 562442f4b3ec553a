-- What the parts of the writer cite: runs of a track's rows, and a frame up to its row n.
use Rattle.std.specs.Prelude.{ℕ, ◌+◌, ◌*◌, ◌/◌, ◌%◌, ◌-◌, ◌^◌, ◌<◌, ◌≤◌, ◌≡◌, List, ◌∷◌, get_or, length}
use Rattle.format.specs.Laws.Limits.{most_rows}
use Rattle.format.specs.Word.{sent, sync, fill}
use Rattle.format.specs.Lawful.{buses}
use Rattle.format.specs.Lists.{list, All}
use Rattle.format.specs.declared.Plan.{Plan}

-- words that leave bit 1 to the parity, where it is chosen
abbrev pub Unsent : Plan → List ℕ → Type 0
Unsent p ws = All (λ w. w < buses p.parity * 2 ^ 20) ws

-- three words for the time, whether they are dealt or not
abbrev pub Timed : Plan → List ℕ → Type 0
Timed p ts = Unsent p ts × (length ts ≡ 3)

-- the track's dealt word in row r, as it is sent
abbrev pub row_word : Plan → List ℕ → ℕ → ℕ → ℕ
row_word p dealt t r = sent p.parity (get_or dealt (r * p.tracks + t) (fill p.fill_bus))

-- the first n rows of the track
abbrev pub sent_rows : Plan → List ℕ → ℕ → ℕ → List ℕ
sent_rows p dealt t n = list (row_word p dealt t) 0 n

-- n rows of the same word
abbrev pub same_rows : ℕ → ℕ → List ℕ
same_rows w n = list (λ r. w) 0 n

-- n rows whose second and third bytes are those of the word w
abbrev pub Tails : ℕ → ℕ → List ℕ → Type 0
Tails w n out = (r : ℕ) → r < n → (get_or out (3 * r + 1) 0 ≡ w / 2 ^ 8 % 256) × (get_or out (3 * r + 2) 0 ≡ w % 256)

-- the sync word and the first n rows of the track's frame
unfoldable pub front : Plan → List ℕ → ℕ → ℕ → List ℕ
front p dealt t n = sync ∷ sent_rows p dealt t n

-- in how many rows the track has one of the first n dealt words
unfoldable pub rows_with : Plan → ℕ → ℕ → ℕ
rows_with p t n = (n + p.tracks - 1 - t) / p.tracks

-- n rows that end with the words ws at the latest: what is asked of the words, and of the bytes they go to
pub record Run (p : Plan) (ws : List ℕ) (first n : ℕ) (out : List ℕ) : Type 0 where
  pub unsent : Unsent p ws
  pub few : length ws < 2048
  pub ends : n * p.tracks + first < length ws + p.tracks
  pub short : n ≤ most_rows
  pub room : 3 * n ≤ length out
