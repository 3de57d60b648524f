-- The plain and the quick searches are right searches, and their calls turn the pages of them: all that `paging` asks. The
-- quick search leaves out starts of the plain one. Assumes nothing.
use mathlib.Core.Path.{◌≡◌, sym, ◌∙◌, subst}
use mathlib.Core.List.{List}
use Prim.Native.Nat.{ℕ, ◌≤◌, ◌<◌}
use native.Mathlib.Omega.{arith}
use lib.ListN.{length}
use lib.Signed.{le_z_yes}
use Rattle.score.specs.Limits.{table_words}
use Rattle.score.specs.Score.{score_of, heard_of, number_of}
use Rattle.score.proofs.Columns.{score_length}
use Rattle.ways.specs.declared.way.Way.{Way}
use Rattle.ways.specs.declared.way.AnyWay.{AnyWay}
use Rattle.ways.specs.declared.way.AnyWay.TheVariants.{Moved, Written}
use Rattle.ways.specs.declared.way.Way.TheVariants.{Exact, Octave}
use Rattle.ways.specs.declared.bookmark.Bookmark.{Bookmark}
use Rattle.ways.specs.Way.{range_of, range_as}
use Rattle.asking.specs.Limits.{most_notes}
use Rattle.asking.specs.Asking.{Accepted, AcceptedSets, InRange, PlainAsks}
use Rattle.asking.proofs.Rows.{plain_clear, quick_clear}
use Rattle.filter.specs.Limits.{word_bits}
use Rattle.filter.specs.Table.{theme_table}
use Rattle.paging.specs.Lent.{Lent, Room}
use Rattle.paging.specs.Search.{Narrow, Right}
use Rattle.paging.proofs.Answers.{paged_clear}
use Rattle.paging.proofs.Fewer.{only_right}
use Rattle.paging.proofs.Renumbered.{renumbered_right}
use Rattle.paging.proofs.Paging.{Calls}
use Rattle.walking.proofs.Order.{in_starts}
use Rattle.written.proofs.Listed.{written_right}
use Rattle.search.specs.Pairs.{along_as, plain_search, candidate_of, quick_search, search_as}
use Rattle.search.specs.Page.{rows_of_plain, plain_page, rows_of_quick, quick_page}
use Rattle.search.proofs.Numbers.{numbers_rise, heard_few}
use Rattle.search.proofs.Listed.{start_within, along_ordered}

-- ---- right searches

pub way_narrow : (way : Way) → Narrow (range_of way)
way_narrow Exact = record { not_below = le_z_yes tt; some = le_z_yes tt; not_above = le_z_yes tt }
way_narrow Octave = record { not_below = le_z_yes tt; some = le_z_yes tt; not_above = le_z_yes tt }

-- along columns
pub along_right : (way : AnyWay) (columns : List (List ℕ)) (theme : List ℕ) → 2 ≤ length theme → length columns < 65535 → Right (along_as way columns theme)
along_right (Moved way) columns theme notes few =
    record {
      ordered = along_ordered way columns theme;
      each = λ s m. start_within way columns theme (in_starts way columns theme m);
      narrow = way_narrow way;
      few = few;
    }
along_right Written columns theme notes few = written_right columns theme notes few

-- in a score
pub right_as : (way : AnyWay) (score : List (List ℕ)) (theme : List ℕ) → 2 ≤ length theme → length score < 65535 → Right (search_as way score theme)
right_as way score theme notes few =
    renumbered_right (length score) (number_of score) (along_as way (heard_of score) theme) (numbers_rise score)
    (along_right way (heard_of score) theme notes (omega (arith, heard_few score))) few

module _ (way : Way) (score : List (List ℕ)) (theme : List ℕ) (notes : 2 ≤ length theme) (few : length score < 65535) where
  pub quick_right : (w : ℕ) (table sets : List ℕ) → Right (quick_search w way score theme table sets)
  quick_right w table sets =
      only_right (λ s. candidate_of w score table sets (length theme) s.column) (plain_search way score theme) (right_as (Moved way) score theme notes few)

-- ---- the calls

module _ (cells : List ℕ) (h : ℕ) (theme : List ℕ) (way : AnyWay) (a : Accepted most_notes cells h theme) (r : ℕ) (room : 1 ≤ r) where
  score_few : length (score_of cells h) < 65535
  score_few = omega (arith, score_length cells h, a.columns_few)

  asks : (b : Bookmark) (buffers : Lent) → InRange (range_as way) (length (score_of cells h)) b → Room r buffers
      → PlainAsks cells h theme way b buffers.columns buffers.shifts
  asks b buffers i m =
      record {
        accepted = a;
        room = omega (arith, m.of_columns);
        same_room = m.of_shifts ∙ sym m.of_columns;
        marked = subst (λ (n : ℕ). InRange (range_as way) n b) (score_length cells h) i;
      }

  pub plain_calls : Calls (search_as way (score_of cells h) theme) r (plain_page cells h theme way)
  unfolding plain_page
  plain_calls =
      record {
        right = right_as way (score_of cells h) theme a.notes_some score_few;
        some_room = room;
        turns = λ b buffers i m. paged_clear (rows_of_plain cells h theme way b buffers) (search_as way (score_of cells h) theme) b buffers
            ((plain_clear cells h theme way b buffers.columns buffers.shifts).0 (asks b buffers i m));
      }

-- with sets that are accepted, and at each call any table of 4,096 places
module _ (cells : List ℕ) (h : ℕ) (theme : List ℕ) (way : Way) (a : Accepted most_notes cells h theme) (r : ℕ) (room : 1 ≤ r)
    (sets : List ℕ) (s : AcceptedSets cells h sets) (table : Bookmark → Lent → List ℕ)
    (long : (b : Bookmark) (buffers : Lent) → length (table b buffers) ≡ table_words) where
  pub quick_calls : Calls (quick_search word_bits way (score_of cells h) theme (theme_table word_bits theme) sets) r (λ b buffers. quick_page cells h theme way b sets (table b buffers) buffers)
  unfolding quick_page
  quick_calls =
      record {
        right = quick_right way (score_of cells h) theme a.notes_some (score_few cells h theme (Moved way) a r room) word_bits (theme_table word_bits theme) sets;
        some_room = room;
        turns =
            λ b buffers i m.
            paged_clear (rows_of_quick cells h theme way b sets (table b buffers) buffers) (quick_search word_bits way (score_of cells h) theme (theme_table word_bits theme) sets) b buffers
            ((quick_clear cells h theme way b sets (table b buffers) buffers.columns buffers.shifts).0
            (record { plain = asks cells h theme (Moved way) a r room b buffers i m; with_sets = s; table_long = long b buffers }));
      }
