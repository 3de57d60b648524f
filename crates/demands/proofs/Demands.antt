-- The three demands hold, and what is wanted of the question, of the update, of the explainer and of the router. Assumes nothing.
use mathlib.Core.Path.{refl, subst}
use mathlib.Core.List.{List}
use Prim.Native.Nat.{ℕ}
use Rattle.score.specs.Score.{score_of}
use Rattle.score.specs.Refusals.{judge}
use Rattle.score.proofs.Judged.{verdict_clear}
use Rattle.preparing.specs.Preparing.{prepared}
use Rattle.ways.specs.declared.way.AnyWay.TheVariants.{Moved}
use Rattle.asking.specs.Limits.{most_notes}
use Rattle.asking.specs.Refusals.{request_rows}
use Rattle.asking.specs.Asking.{Accepted}
use Rattle.asking.proofs.Rows.{accepted_clear}
use Rattle.paging.proofs.Bookmarks.{first_range}
use Rattle.search.specs.Page.{plain_page, quick_page, quick_table, QuickPages}
use Rattle.filter.specs.Limits.{word_bits}
use Rattle.filter.specs.Table.{theme_table}
use Rattle.occurring.specs.Occurring.{quick_list, by_list, occurs_rows}
use Rattle.updating.specs.Updating.{renewed}
use Rattle.explaining.specs.Explaining.{explanation}
use Rattle.explaining.proofs.Refusing.{passed_asks}
use Rattle.routing.proofs.MeantRoute.{meant_there, meant_unique}
use Rattle.routing.proofs.RouteAnswers.{routes_there}
use Rattle.demands.specs.Demands.{RightRequest, Demand1, Demand2, Demand3, Question, Update, Explainer, Router}
use Rattle.demands.proofs.Away.{prepares_away, plain_away, quick_away, occurs_away, updates_away, explains_away}
use Rattle.demands.proofs.Away.{routes_away}
use Rattle.demands.proofs.True.{own_sets_left, plain_stands, written_free, quick_stands, prepared_intervals, prepared_summary, updated_summary}
use Rattle.demands.proofs.Whole.{plainly, plain_all, quick_own, own_call}
use Rattle.demands.proofs.Alike.{reading_same, one_page}
use Rattle.demands.proofs.Questions.{asked_pages, asked_table, asked_lacking, asked_own}
use Rattle.demands.proofs.Explanations.{explained_listed, explained_first, explained_tracks, explained_bare, explained_sifted}
use Rattle.demands.proofs.Explanations.{explained_dismissed, explained_unasked, explained_places, explained_by_column}
use Rattle.demands.proofs.Updates.{renewed_fresh, renewed_length, renewed_own, renewed_other}
use Rattle.demands.proofs.Routings.{routed_unlisted, routed_listed, routed_written, routed_length, routed_tail}
use Rattle.demands.proofs.Routings.{routed_count, routed_least, meant_as_exact}
use Rattle.std.specs.Prelude.{Result, Ok, Err}

-- a right score and theme are accepted
accepted : {cells : List ℕ} {h : ℕ} {theme : List ℕ} → RightRequest cells h theme → Accepted most_notes cells h theme
accepted {cells} {h} {theme} e = (accepted_clear most_notes cells h theme).1 (verdict_clear (request_rows most_notes cells h theme) e)

pub demand1 : Demand1
demand1 =
    record {
      preparation_answers = λ cells h lent.
          let f = prepared cells h lent in
          (f.answer, (f.sets, record { answers = refl; fills = refl }));
      plain_answers = λ cells h theme way b buffers.
          let f = plain_page cells h theme way b buffers in
          (f.answer, (f.buffers, record { pages = record { answers = refl; writes = refl } }));
      quick_answers = λ cells h theme way b sets table buffers.
          let f = quick_page cells h theme way b sets table buffers in
          (f.answer, (quick_table cells h theme way b sets table buffers, (f.buffers, record { pages = record { answers = refl; writes = refl }; fills_table = refl })));
      question_answers = λ cells h theme way sets summary table.
          let rows = occurs_rows cells h theme sets summary table in (
            judge rows Err (by_list (quick_list way (score_of cells h) theme sets)),
            (judge rows (λ r. table) (theme_table word_bits theme), record { answers = refl; fills_table = refl }),
          );
      explainer_answers = λ cells h theme way pair sets. (explanation cells h theme way pair sets, refl);
      router_answers = routes_there;
      update_answers = λ cells h c lent.
          let f = renewed cells h c lent in
          (f.answer, (f.sets, record { answers = refl; writes = refl }));
      preparation = prepares_away;
      plain = plain_away;
      quick = quick_away;
      question = occurs_away;
      update = updates_away;
      router = routes_away;
      explainer = explains_away;
    }

pub demand2 : Demand2
demand2 =
    record {
      plain = plain_stands;
      quick = quick_stands;
      prepared = prepared_intervals;
      summary = prepared_summary;
      summary_after = updated_summary;
    }

pub demand3 : Demand3
demand3 =
    record {
      plain = λ cells h theme way a r room p. plain_all cells h theme (accepted a) r room way p;
      written = written_free;
      quick = λ cells h theme way a r room lent s q. quick_own cells h theme (accepted a) r room way (own_call cells h theme (accepted a) r room way s q);
      same_page = λ cells h theme way b buffers buffers' table same lent s {t} {u} {after} {after'} {table'} p q.
          one_page cells h theme way b buffers buffers' table same p
          (subst (λ (l : List ℕ). QuickPages cells h theme way b l table buffers' (Ok t) table' after') (own_sets_left s) q);
      same = λ cells h theme way a r room lent s p q x y.
          reading_same cells h theme way (accepted a) r room p (own_call cells h theme (accepted a) r room way s q)
          (first_range (plainly cells h theme (accepted a) r room (Moved way) p).right.narrow _) x y;
    }

pub question : Question
question =
    record {
      table_filled = λ cells h theme way sets summary table o given. asked_table cells h theme way sets summary table o given;
      by_pages = λ cells h theme way sets summary table table₂ buffers o given q.
          asked_pages cells h theme way sets summary table o given table₂ buffers q;
      own = λ cells h theme way a lent p table long o. asked_own cells h theme way (accepted a) lent p table long o;
      lacking_none = λ cells h theme way sets summary table o given l. asked_lacking cells h theme way sets summary table o given l;
    }

pub update : Update
update =
    record {
      fresh = λ before cells h c one lent p u. renewed_fresh cells h c u before one (own_sets_left p);
      each = λ cells h c lent u. (renewed_length cells h c u, renewed_own cells h c u, renewed_other cells h c u);
    }

pub explainer : Explainer
explainer =
    record {
      listed = λ cells h theme way pair sets e v. explained_listed cells h theme way pair sets e v;
      in_list = λ cells h theme way pair sets e v r room p reading.
          let l = explained_listed cells h theme way pair sets e v in
          let i = (plain_all cells h theme (passed_asks cells h theme way pair sets v).0 r room (Moved way) p).exactly reading pair in
          (λ x. i.1 (l.0 x), λ x. l.1 (i.0 x));
      first_reason = λ cells h theme way pair sets e v. explained_first cells h theme way pair sets e v;
      tracks = λ cells h theme way pair sets e v l. explained_tracks cells h theme way pair sets e v l;
      without_tracks = λ cells h theme way pair sets e v f. explained_bare cells h theme way pair sets e v f;
      sifted = λ cells h theme way pair sets e v f. explained_sifted cells h theme way pair sets e v f;
      dismissed = λ cells h theme way pair sets e v d. explained_dismissed cells h theme way pair sets e v d;
      unasked = λ cells h theme way pair sets e v f. explained_unasked cells h theme way pair sets e v f;
      places = λ cells h theme way pair sets e. explained_places cells h theme sets way pair e;
      by_column = λ cells h theme way way' pair pair' sets e e' same. explained_by_column cells h theme sets way way' pair pair' e e' same;
    }

pub router : Router
router =
    record {
      unlisted = λ cells h theme way pair lent p a. routed_unlisted cells h theme way pair lent p a;
      in_list = λ cells h theme way pair lent p a long r room q reading.
          let l = routed_listed cells h theme way pair lent p a long in
          let i = (plain_all cells h theme (accepted a) r room way q).exactly reading pair in
          (λ x. i.1 (l.0 x), λ x. l.1 (i.0 x));
      exactly_one = λ cells h theme way pair a s.
          let right : Accepted most_notes cells h theme = accepted a in
          let (route, meant) = meant_there way cells h theme pair right.tracks_few s in
          (route, (meant, λ other m. meant_unique way (score_of cells h) theme pair m meant));
      writes = λ cells h theme way pair lent p. routed_written cells h theme way pair lent p;
      tail_kept = λ cells h theme way pair lent p.
          (routed_length cells h theme way pair lent p, routed_tail cells h theme way pair lent p);
      least = λ cells h theme way pair lent p.
          (routed_count cells h theme way pair lent p, routed_least cells h theme way pair lent p);
      as_exact = meant_as_exact;
    }
