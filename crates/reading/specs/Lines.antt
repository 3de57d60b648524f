-- The lister's input line by line, as the requirement describes it: which lines an input has (`Divides`, `lines`), when line n
-- of them is right (`RightLine`), when all are (`AllRight`), and which one is the first fault (`FirstFault`). Lines are
-- numbered from 1. That an input is told faulty exactly at its first fault is a theorem of `proofs/FirstFaults`. Assumes
-- nothing.
use Rattle.std.specs.Prelude.{◌≡◌, cond, ◌⊎◌, List, [], ◌∷◌, ◌++◌, ℕ, ◌+◌, ◌-◌, ◌≤◌, ◌<◌, eqb, length, get_or}
use Rattle.theory.specs.Lists.{first}
use Rattle.score.specs.Limits.{most_columns}
use Rattle.words.specs.Words.{got}
use Rattle.reading.specs.Reading.{Theme, theme_line, chord_line}
use Rattle.reading.specs.Request.{Request}

-- ---- the lines of an input

abbrev pub line_feed : ℕ
line_feed = 10

-- how many bytes a line has before its line feed; all its bytes where it has none
abbrev pub line_bytes : List ℕ → ℕ
line_bytes line = first (λ b. eqb b line_feed) line

-- an input and all its lines, in order. A line is the bytes up to a line feed, and with it: its only line feed is its last
-- byte. What stands behind the last line feed is a line too, one without a line feed, unless nothing stands there. An empty
-- input has no line
pub data Divides : (all : List (List ℕ)) (input : List ℕ) → Type 0 where
  empty : Divides [] []
  unended : {line : List ℕ} → 1 ≤ length line → line_bytes line ≡ length line → Divides (line ∷ []) line
  ended : {line : List ℕ} {others : List (List ℕ)} {behind : List ℕ} → line_bytes line + 1 ≡ length line → Divides others behind
      → Divides (line ∷ others) (line ++ behind)

-- the same as a function: each input has these lines and no others (`proofs/LinesDivided`)
abbrev pub in_front : ℕ → List (List ℕ) → List (List ℕ)
in_front b [] = (b ∷ []) ∷ []
in_front b (line ∷ others) = (b ∷ line) ∷ others

abbrev pub lines : List ℕ → List (List ℕ)
lines [] = []
lines (b ∷ input) = cond (eqb b line_feed) ((b ∷ []) ∷ lines input) (in_front b (lines input))

-- ---- line n of them

-- from 1; nothing where there is none
abbrev pub line_at : (all : List (List ℕ)) (n : ℕ) → List ℕ
line_at all n = get_or all (n - 1) []

-- how many bytes it may have before its line feed
abbrev pub most_bytes : ℕ
most_bytes = 160

-- a theme line, whole: `theme`, then `exact`, `octave` or `written`, 2 to 32 notes, a line feed, and nothing behind it
pub record IsThemeLine (line : List ℕ) : Type 0 where
  pub theme : Theme
  pub whole : theme_line line ≡ got theme []

-- a chord line of h cells, whole: `chord`, its cells, which are 1 to 16, a line feed, and nothing behind it
pub record IsChordLine (h : ℕ) (line : List ℕ) : Type 0 where
  pub cells : List ℕ
  pub whole : chord_line 0 line ≡ got cells []
  pub wide : length cells ≡ h

-- line n is a chord line with as many cells as line 2, the first chord line, has; and it is no more than the 2,048th
pub record RightChord (all : List (List ℕ)) (n : ℕ) : Type 0 where
  pub few : n ≤ most_columns + 1
  pub tracks : ℕ
  pub first_chord : IsChordLine tracks (line_at all 2)
  pub this_chord : IsChordLine tracks (line_at all n)

-- line n is there, is not too long, and is what a line of its number must be
pub record RightLine (all : List (List ℕ)) (n : ℕ) : Type 0 where
  pub numbered : 1 ≤ n
  pub there : n ≤ length all
  pub short : line_bytes (line_at all n) ≤ most_bytes
  pub theme : n ≡ 1 → IsThemeLine (line_at all n)
  pub chord : 2 ≤ n → RightChord all n

-- line n is there and is not right
pub record FaultyLine (all : List (List ℕ)) (n : ℕ) : Type 0 where
  pub numbered : 1 ≤ n
  pub there : n ≤ length all
  pub wrong : RightLine all n → ⊥

-- line n is not there, and an input needs it: it needs a theme line and a first chord line
pub record MissingLine (all : List (List ℕ)) (n : ℕ) : Type 0 where
  pub numbered : 1 ≤ n
  pub needed : n ≤ 2
  pub ends : length all < n

-- ---- all of them

-- lines 1 to n - 1 are right, and line n is faulty or missing
pub record FirstFault (all : List (List ℕ)) (n : ℕ) : Type 0 where
  pub before : (k : ℕ) → 1 ≤ k → k < n → RightLine all k
  pub here : FaultyLine all n ⊎ MissingLine all n

-- every line is right, and none is missing
pub record AllRight (all : List (List ℕ)) : Type 0 where
  pub each : (n : ℕ) → 1 ≤ n → n ≤ length all → RightLine all n
  pub enough : (n : ℕ) → MissingLine all n → ⊥

-- the request that right lines state: line 1 has its theme, and line j + 1 the cells of its column j
pub record Stated (all : List (List ℕ)) (q : Request) : Type 0 where
  pub theme : theme_line (line_at all 1) ≡ got q.theme []
  pub count : length all ≡ length q.columns + 1
  pub column : (j : ℕ) → 1 ≤ j → j ≤ length q.columns
      → chord_line 0 (line_at all (j + 1)) ≡ got (get_or q.columns (j - 1) []) []
