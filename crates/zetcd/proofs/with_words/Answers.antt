use Rattle.std.proofs.Common.{◌≡◌, List, ℕ, ◌∙◌, sym, ap, subst, arith}
use Rattle.std.specs.Vec.Iter.{into_iter_items}
use Rattle.zetcd_cmd.specs.Proxying.{NamesServe}
use Rattle.zetcd_cmd.specs.Serving.{NamesEtcd}
use Rattle.zetcd_cmd.specs.Stressing.{NamesStress}
use Rattle.zetcd.specs.Arguments.{IsNoProxying, IsNoServing, IsNoStressing, IsProxying, IsServeWords, IsStressing, arguments}
use Rattle.zetcd.proofs.Arguments.{texts, is_word-texts, texts-is_word, arguments-after, serving-etcd, etcd-serving, proxying-serve, serve-proxying, stressing-stress, stress-stressing}
use Rattle.zetcd.proofs.with_words.Given.{Over}
use Rattle.zetcd.proofs.with_words.Goals as goal

-- the words that are handed on
handed : (g : Over) (c : goal.After-drop-words-3 g) → texts c.as_slice-2.result.now ≡ arguments (into_iter_items c.args.args)
handed g c =
    ap texts c.as_slice-2.ensures.value ∙ c.in_ok-words-2.ensures
    ∙ arguments-after c.as_slice.result.now c.min-after_name.result (grind (arith, c.min-after_name.ensures, c.len.ensures, c.as_slice.ensures))
    ∙ ap arguments (c.as_slice.ensures.value ∙ c.in_ok-words.ensures)

pub returns-clause-replay : goal.returns-clause-replay
returns-clause-replay g c = λ h. c.zetcd-status.ensures.replay (is_word-texts _ _ (handed g c ∙ h))

pub returns-clause-show : goal.returns-clause-show
returns-clause-show g c = λ h. c.zetcd-status.ensures.show (is_word-texts _ _ (handed g c ∙ h))

pub returns-clause-judge : goal.returns-clause-judge
returns-clause-judge g c = λ h. c.zetcd-status.ensures.judge (is_word-texts _ _ (handed g c ∙ h))

-- the words that are handed on are those of `etcd` only where the words after the name are
not_etcd : (g : Over) (c : goal.After-drop-words-3 g) → IsNoServing (arguments (into_iter_items c.args.args)) → NamesEtcd c.as_slice-2.result.now → ⊥
not_etcd g c none names = none names.0 names.1 (subst (λ (ws : List (List ℕ)). IsServeWords ws names.0 names.1) (handed g c) (etcd-serving _ _ _ names.2))

-- and so for `serve`
not_serve : (g : Over) (c : goal.After-drop-words-3 g) → IsNoProxying (arguments (into_iter_items c.args.args)) → NamesServe c.as_slice-2.result.now → ⊥
not_serve g c none names =
    none names.0 names.1 names.2 (subst (λ (ws : List (List ℕ)). IsProxying ws names.0 names.1 names.2) (handed g c) (serve-proxying _ _ _ _ names.3))

-- and so for `stress`
not_stress : (g : Over) (c : goal.After-drop-words-3 g) → IsNoStressing (arguments (into_iter_items c.args.args)) → NamesStress c.as_slice-2.result.now → ⊥
not_stress g c none names =
    none names.0 names.1 names.2 (subst (λ (ws : List (List ℕ)). IsStressing ws names.0 names.1 names.2) (handed g c) (stress-stressing _ _ _ _ names.3))

pub returns-clause-usage : goal.returns-clause-usage
returns-clause-usage g c = λ none o m n.
    c.zetcd-status.ensures.usage (λ r. none.no_replay (sym (handed g c) ∙ texts-is_word _ _ r)) (λ s. none.no_show (sym (handed g c) ∙ texts-is_word _ _ s))
    (λ j. none.no_judge (sym (handed g c) ∙ texts-is_word _ _ j))
    (not_stress g c o) (not_etcd g c m) (not_serve g c n)

pub returns-clause-stress : goal.returns-clause-stress
returns-clause-stress g c = λ number connections steps is.
    c.zetcd-status.ensures.stress number connections steps
    (stressing-stress _ number connections steps (subst (λ (ws : List (List ℕ)). IsStressing ws number connections steps) (sym (handed g c)) is))

pub returns-clause-offline : goal.returns-clause-offline
returns-clause-offline g c = λ m n. c.zetcd-status.ensures.offline (not_etcd g c m) (not_serve g c n)

pub returns-clause-unasked : goal.returns-clause-unasked
returns-clause-unasked g c = λ n. c.zetcd-status.ensures.unasked (not_serve g c n)

pub returns-clause-unread : goal.returns-clause-unread
returns-clause-unread g c = λ none.
    c.zetcd-status.ensures.unread (λ r. none.no_replay (sym (handed g c) ∙ texts-is_word _ _ r)) (λ s. none.no_show (sym (handed g c) ∙ texts-is_word _ _ s))
    (λ j. none.no_judge (sym (handed g c) ∙ texts-is_word _ _ j))

pub returns-clause-show_memory : goal.returns-clause-show_memory
returns-clause-show_memory g c = λ h. c.zetcd-status.ensures.show_memory (is_word-texts _ _ (handed g c ∙ h))

pub returns-clause-judge_memory : goal.returns-clause-judge_memory
returns-clause-judge_memory g c = λ h. c.zetcd-status.ensures.judge_memory (is_word-texts _ _ (handed g c ∙ h))

pub returns-clause-etcd : goal.returns-clause-etcd
returns-clause-etcd g c = λ listen limit is.
    c.zetcd-status.ensures.etcd listen limit (serving-etcd _ listen limit (subst (λ (ws : List (List ℕ)). IsServeWords ws listen limit) (sym (handed g c)) is))

pub returns-clause-serve : goal.returns-clause-serve
returns-clause-serve g c = λ listen endpoint limit is.
    c.zetcd-status.ensures.serve listen endpoint limit
    (proxying-serve _ listen endpoint limit (subst (λ (ws : List (List ℕ)). IsProxying ws listen endpoint limit) (sym (handed g c)) is))

pub returns-clause-net : goal.returns-clause-net
returns-clause-net g c = λ n. c.zetcd-status.ensures.net (not_serve g c n)

pub returns-clause-net_cause : goal.returns-clause-net_cause
returns-clause-net_cause g c = c.zetcd-status.ensures.net_cause

pub returns-clause-unless_net : goal.returns-clause-unless_net
returns-clause-unless_net g c = c.zetcd-status.ensures.unless_net

pub returns-clause-read : goal.returns-clause-read
returns-clause-read g c = c.zetcd-status.ensures.read

pub returns-clause-unless_fault : goal.returns-clause-unless_fault
returns-clause-unless_fault g c = c.zetcd-status.ensures.unless_fault

pub returns-clause-once : goal.returns-clause-once
returns-clause-once g c = c.zetcd-status.ensures.once

pub returns-clause-write : goal.returns-clause-write
returns-clause-write g c = c.zetcd-status.ensures.write

pub returns-clause-unless_write_fault : goal.returns-clause-unless_write_fault
returns-clause-unless_write_fault g c = c.zetcd-status.ensures.unless_write_fault
