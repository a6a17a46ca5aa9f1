-- What was written reads back.
use Rattle.std.proofs.Common.{◌≡◌, ℕ, List, IsUtf8, refl, ap, ◌∙◌}
use Rattle.std.specs.Prelude.{ℤ}
use Rattle.std.specs.List.{AllByRecursion}
use Rattle.serde_json.specs.Read.{read}
use Rattle.serde_json.specs.Written.{compact_text}
use Rattle.ev_types.specs.declared.answer.Answer.{Answer}
use Rattle.ev_types.specs.declared.answer.Kv.{Kv}
use Rattle.ev_types.specs.declared.ask.Ask.{Ask}
use Rattle.ev_types.specs.declared.ask.Ask.TheVariants as ask
use Rattle.ev_json.specs.declared.line.Line.TheVariants as line
use Rattle.ev_json.specs.Answers.{line_in}
use Rattle.ev_json.specs.Asks.{ask_in, watch_in}
use Rattle.ev_json.specs.Bodies.{ReadsAs, IsOneLine, message_body, reads}
use Rattle.ev_json.specs.Messages.{ask_data, route_of, answer_data, watch_data, line_data, canceled_data}
use Rattle.ev_fields.specs.Ranges.{IsCount, IsKey, IsPositiveCount}
use Rattle.ev_json.specs.Ranges.{KvFits, AskFits, AnswerFits, line_of}
use Rattle.ev_json.proofs.AnswerBack.{plain-answer, answer_back}
use Rattle.ev_json.proofs.AskBack.{plain-ask, ask_back, plain-watch, watch_back}
use Rattle.ev_json.proofs.LineBack.{plain-line, line_back, plain-canceled, canceled_back}
use Rattle.ev_json.proofs.Lines.{first_line-one}
use Rattle.ev_fields.proofs.Rising.{read-plain}

pub ask_returns : (a : Ask) (bytes : List ℕ) → IsUtf8 bytes → bytes ≡ compact_text (ask_data a) → AskFits a → ReadsAs (ask_in (route_of a)) bytes a
unfolding ReadsAs
ask_returns a bytes u e h = (u, ask_data a, ap read e ∙ read-plain (ask_data a) (plain-ask a), ask_back a h)

pub watch_returns : (from : ℤ) (key bytes : List ℕ) → IsUtf8 bytes → bytes ≡ compact_text (watch_data from key) → IsPositiveCount from → IsKey key → ReadsAs watch_in bytes (from, key)
unfolding ReadsAs
watch_returns from key bytes u e h k = (u, watch_data from key, ap read e ∙ read-plain (watch_data from key) (plain-watch from key), watch_back from key h k)

pub line_returns : (kvs : List Kv) (revision : ℤ) (bytes : List ℕ) → IsUtf8 bytes → bytes ≡ compact_text (line_data kvs revision) → AllByRecursion KvFits kvs → IsCount revision → ReadsAs line_in bytes (line_of kvs revision)
unfolding ReadsAs
line_returns kvs revision bytes u e h k = (u, line_data kvs revision, ap read e ∙ read-plain (line_data kvs revision) (plain-line kvs revision), line_back kvs revision h k)

body_of : (asked : Ask) (bytes : List ℕ) → IsOneLine bytes → message_body asked bytes ≡ bytes
unfolding message_body
body_of (ask.Txn t) bytes h = refl
body_of (ask.Range r) bytes h = refl
body_of (ask.Grant id ttl) bytes h = refl
body_of (ask.Alive id) bytes h = first_line-one bytes h

pub answer_inside : (a : Answer) (bytes : List ℕ) → bytes ≡ compact_text (answer_data a) → IsOneLine bytes
answer_inside a bytes e = rw e (plain-answer a).inside

pub line_inside : (kvs : List Kv) (revision : ℤ) (bytes : List ℕ) → bytes ≡ compact_text (line_data kvs revision) → IsOneLine bytes
line_inside kvs revision bytes e = rw e (plain-line kvs revision).inside

pub answer_returns : (asked : Ask) (a : Answer) (bytes : List ℕ) → IsUtf8 bytes → bytes ≡ compact_text (answer_data a) → AnswerFits asked a → reads asked bytes a
unfolding ReadsAs
answer_returns asked a bytes u e h =
    let whole = body_of asked bytes (answer_inside a bytes e) in
    rw whole (u, answer_data a, ap read e ∙ read-plain (answer_data a) (plain-answer a), answer_back asked a h)

pub canceled_returns : (compacted revision : ℤ) (bytes : List ℕ) → IsUtf8 bytes → bytes ≡ compact_text (canceled_data compacted revision) → IsPositiveCount compacted → ReadsAs line_in bytes (line.Compacted compacted)
unfolding ReadsAs
canceled_returns compacted revision bytes u e h = (u, canceled_data compacted revision, ap read e ∙ read-plain (canceled_data compacted revision) (plain-canceled compacted revision), canceled_back compacted revision h)

pub canceled_inside : (compacted revision : ℤ) (bytes : List ℕ) → bytes ≡ compact_text (canceled_data compacted revision) → IsOneLine bytes
canceled_inside compacted revision bytes e = rw e (plain-canceled compacted revision).inside

pub ruleset returned = (ask_returns, watch_returns, line_returns, answer_returns, canceled_returns, answer_inside, line_inside, canceled_inside)
