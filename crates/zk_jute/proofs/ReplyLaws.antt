-- A frame is read as a reply exactly where it spells one.
use Rattle.std.proofs.Common.{◌≡◌, ◌≢◌, ℕ, ◌-◌, ◌<◌, ◌≤◌, ltb, Bool, true, false, cond, Option, Some, None, List, [], ◌∷◌, ◌++◌, length, drop, map, Ok, Err, refl, sym, ap, subst, ◌∙◌, arith, ℤ, pos}
use Rattle.std.specs.List.{flat_map}
use Rattle.std.specs.Ordering.{int_eq}
use Rattle.std.proofs.lemmas.Bool.{le-ltb, lt-ltb, ltb-false}
use Rattle.std.proofs.lemmas.Bool.Decides.{Decides-int_eq}
use Rattle.std.proofs.lemmas.List.{append-nil, drop_at, drop-drop, length-append, length-drop}
use Rattle.zk_model.specs.declared.node.Stat.{Stat}
use Rattle.zk_jute.specs.declared.opcode.Opcode.{Opcode}
use Rattle.zk_jute.specs.declared.opcode.Opcode.TheVariants as opcodes
use Rattle.zk_model.specs.declared.reply.Body.{Body}
use Rattle.zk_model.specs.declared.reply.Body.TheVariants as bodies
use Rattle.zk_model.specs.declared.reply.PartResult.{PartResult}
use Rattle.zk_model.specs.declared.reply.Reply.{Reply}
use Rattle.zk_model.specs.declared.reply.Reply.TheVariants as replies
use Rattle.zk_jute.specs.JuteValues.{Value, buffer, ustring, ustrings, open_acl, Kind, a_long, a_buffer, a_ustring, some_ustrings, the_open_acl, kind_of, Spelled, Spells}
use Rattle.zk_jute.specs.JuteReading.{Read, ◌>>=◌, front_int, front_long, buffer_at, vector_at, ustring_at, value_at, values_at, all_until_last, ended}
use Rattle.zk_jute.specs.FromValues.{value_in, texts_in, bytes_in, later, stat_with, body_with, body_from}
use Rattle.zk_jute.specs.Grammar.{IsListed, Suits, IsReply}
use Rattle.zk_jute.specs.Numbers.{opcode_number, opcode_numbered}
use Rattle.zk_jute.specs.Packets.{reply_header, reply_values}
use Rattle.zk_jute.specs.Records.{stat_fields, stat_values}
use Rattle.zk_jute.specs.Replies.{reply_fields, body_values, fields, results, shape_for, shape_of}
use Rattle.zk_jute.specs.ReplyReading.{plain_body_at, reply_body_at, reply_at, answered_as, reply_to, NoHeader, Unreadable, Unknown, Answers, read_reply}
use Rattle.zk_jute.specs.Results.{result_values, last_result, result_at}
use Rattle.zk_jute.proofs.Conforming.{normals, normals_are}
use Rattle.zk_jute.proofs.Framing.{spelled_join}
use Rattle.zk_jute.proofs.Headers.{front_int_of, front_long_of, first_int, first_long, whole_is}
use Rattle.zk_jute.proofs.JuteFields.{Takes, bind_ok, ok_is, values_take, values_again}
use Rattle.zk_jute.proofs.Listing.{all_takes, all_again}
use Rattle.zk_jute.proofs.Lists.{spelled_split, spelled_flat, spelled_items}
use Rattle.zk_jute.proofs.Numbered.{opcode_numbered-number_of}
use Rattle.zk_jute.proofs.ResultLaws.{IsResult, IsLastResult, result_next}
use Rattle.zk_jute.proofs.Stats.{stat_back, stat_kinds, stat_normals}
use Rattle.zx_base.proofs.Booleans.{false-not_true}

-- ---- the outcomes, one by one

pub reads_no_header : (frame : List ℕ) (kind : ℤ) → length frame < 16 → read_reply frame kind ≡ NoHeader
unfolding read_reply
reads_no_header frame kind short = rw (lt-ltb _ _ short) refl

pub reads_unknown : (frame : List ℕ) (kind : ℤ) → 16 ≤ length frame → opcode_numbered kind ≡ None → read_reply frame kind ≡ Unknown (front_int frame) kind
unfolding read_reply
reads_unknown frame kind enough none = rw (le-ltb _ _ enough, none) refl

pub reads_answers : (frame : List ℕ) (kind : ℤ) (code : Opcode) (r : Reply) (rest : List ℕ) → 16 ≤ length frame → opcode_numbered kind ≡ Some code → reply_at code (front_int (drop 12 frame)) (drop 16 frame) ≡ Ok (r, rest)
    → read_reply frame kind ≡ Answers (front_int frame) (front_long (drop 4 frame)) r
unfolding read_reply
reads_answers frame kind code r rest enough numbered body = rw (le-ltb _ _ enough, numbered, body) refl

pub reads_unreadable : (frame : List ℕ) (kind : ℤ) (code : Opcode) (left : ℕ) → 16 ≤ length frame → opcode_numbered kind ≡ Some code → reply_at code (front_int (drop 12 frame)) (drop 16 frame) ≡ Err left
    → read_reply frame kind ≡ Unreadable (front_int frame) (length frame - left)
unfolding read_reply
reads_unreadable frame kind code left enough numbered body = rw (le-ltb _ _ enough, numbered, body) refl

-- ---- a value, and then a Stat

pub content_then_stat : (bytes content after : List ℕ) (s : Stat) (rest : List ℕ) → buffer_at bytes ≡ Ok (content, after) → values_at stat_fields after ≡ Ok (stat_values s, rest)
    → reply_body_at opcodes.GetData bytes ≡ Ok (bodies.Content content s, rest)
unfolding values_at
content_then_stat bytes content after s rest first then = rw (first, then) (ap (λ (x : Stat). Ok (bodies.Content content x, rest)) (stat_back s))

pub names_then_stat : (bytes : List ℕ) (names : List (List ℕ)) (after : List ℕ) (s : Stat) (rest : List ℕ) → vector_at ustring_at bytes ≡ Ok (names, after) → values_at stat_fields after ≡ Ok (stat_values s, rest)
    → reply_body_at opcodes.GetChildren2 bytes ≡ Ok (bodies.NamesStat names s, rest)
unfolding values_at
names_then_stat bytes names after s rest first then = rw (first, then) (ap (λ (x : Stat). Ok (bodies.NamesStat names x, rest)) (stat_back s))

pub path_then_stat : (bytes path after : List ℕ) (s : Stat) (rest : List ℕ) → ustring_at bytes ≡ Ok (path, after) → values_at stat_fields after ≡ Ok (stat_values s, rest)
    → reply_body_at opcodes.Create2 bytes ≡ Ok (bodies.PathStat path s, rest)
unfolding values_at
path_then_stat bytes path after s rest first then = rw (first, then) (ap (λ (x : Stat). Ok (bodies.PathStat path x, rest)) (stat_back s))

pub acl_then_stat : (bytes after : List ℕ) (s : Stat) (rest : List ℕ) → value_at the_open_acl bytes ≡ Ok (open_acl, after) → values_at stat_fields after ≡ Ok (stat_values s, rest)
    → reply_body_at opcodes.GetAcl bytes ≡ Ok (bodies.OpenAcl s, rest)
unfolding values_at
acl_then_stat bytes after s rest first then = rw (first, then) (ap (λ (x : Stat). Ok (bodies.OpenAcl x, rest)) (stat_back s))

-- ---- bodies

body_with-values : (code : Opcode) (v : ℕ → Value) → (code ≡ opcodes.Multi → ⊥) → body_values (body_with code v) ≡ normals (reply_fields code) v
body_with-values opcodes.Create v plain = refl
body_with-values opcodes.Delete v plain = refl
body_with-values opcodes.Exists v plain = stat_normals v
body_with-values opcodes.GetData v plain = ap (λ (vs : List Value). buffer (bytes_in (v 0)) ∷ vs) (stat_normals (later v))
body_with-values opcodes.SetData v plain = stat_normals v
body_with-values opcodes.GetAcl v plain = ap (λ (vs : List Value). open_acl ∷ vs) (stat_normals (later v))
body_with-values opcodes.GetChildren v plain = refl
body_with-values opcodes.Sync v plain = refl
body_with-values opcodes.Ping v plain = refl
body_with-values opcodes.GetChildren2 v plain = ap (λ (vs : List Value). ustrings (texts_in (v 0)) ∷ vs) (stat_normals (later v))
body_with-values opcodes.Check v plain = refl
body_with-values opcodes.Multi v plain = absurd (plain refl)
body_with-values opcodes.Auth v plain = refl
body_with-values opcodes.SetWatches v plain = refl
body_with-values opcodes.Close v plain = refl
body_with-values opcodes.Create2 v plain = ap (λ (vs : List Value). ustring (bytes_in (v 0)) ∷ vs) (stat_normals (later v))
body_with-values opcodes.CheckWatches v plain = refl
body_with-values opcodes.RemoveWatches v plain = refl

body_with-shape : (code : Opcode) (v : ℕ → Value) → shape_of (body_with code v) ≡ shape_for code
body_with-shape opcodes.Create v = refl
body_with-shape opcodes.Delete v = refl
body_with-shape opcodes.Exists v = ap fields (stat_kinds (stat_with v))
body_with-shape opcodes.GetData v = ap (λ (ks : List Kind). fields (a_buffer ∷ ks)) (stat_kinds (stat_with (later v)))
body_with-shape opcodes.SetData v = ap fields (stat_kinds (stat_with v))
body_with-shape opcodes.GetAcl v = ap (λ (ks : List Kind). fields (the_open_acl ∷ ks)) (stat_kinds (stat_with (later v)))
body_with-shape opcodes.GetChildren v = refl
body_with-shape opcodes.Sync v = refl
body_with-shape opcodes.Ping v = refl
body_with-shape opcodes.GetChildren2 v = ap (λ (ks : List Kind). fields (some_ustrings ∷ ks)) (stat_kinds (stat_with (later v)))
body_with-shape opcodes.Check v = refl
body_with-shape opcodes.Multi v = refl
body_with-shape opcodes.Auth v = refl
body_with-shape opcodes.SetWatches v = refl
body_with-shape opcodes.Close v = refl
body_with-shape opcodes.Create2 v = ap (λ (ks : List Kind). fields (a_ustring ∷ ks)) (stat_kinds (stat_with (later v)))
body_with-shape opcodes.CheckWatches v = refl
body_with-shape opcodes.RemoveWatches v = refl

-- the body that is made is determined by the kinds of its fields
made : List Kind → (ℕ → Value) → Body
made (a_ustring ∷ []) v = bodies.Path (bytes_in (v 0))
made (a_ustring ∷ k ∷ ks) v = bodies.PathStat (bytes_in (v 0)) (stat_with (later v))
made (a_long ∷ ks) v = bodies.Stat (stat_with v)
made (a_buffer ∷ ks) v = bodies.Content (bytes_in (v 0)) (stat_with (later v))
made (the_open_acl ∷ ks) v = bodies.OpenAcl (stat_with (later v))
made (some_ustrings ∷ []) v = bodies.Names (texts_in (v 0))
made (some_ustrings ∷ k ∷ ks) v = bodies.NamesStat (texts_in (v 0)) (stat_with (later v))
made _ v = bodies.Empty

made_from : (code : Opcode) (v : ℕ → Value) → (code ≡ opcodes.Multi → ⊥) → body_with code v ≡ made (reply_fields code) v
unfolding made stat_fields
made_from opcodes.Create v plain = refl
made_from opcodes.Delete v plain = refl
made_from opcodes.Exists v plain = refl
made_from opcodes.GetData v plain = refl
made_from opcodes.SetData v plain = refl
made_from opcodes.GetAcl v plain = refl
made_from opcodes.GetChildren v plain = refl
made_from opcodes.Sync v plain = refl
made_from opcodes.Ping v plain = refl
made_from opcodes.GetChildren2 v plain = refl
made_from opcodes.Check v plain = refl
made_from opcodes.Multi v plain = absurd (plain refl)
made_from opcodes.Auth v plain = refl
made_from opcodes.SetWatches v plain = refl
made_from opcodes.Close v plain = refl
made_from opcodes.Create2 v plain = refl
made_from opcodes.CheckWatches v plain = refl
made_from opcodes.RemoveWatches v plain = refl

made_back : (b : Body) → (shape_of b ≡ results → ⊥) → made (map kind_of (body_values b)) (value_in (body_values b)) ≡ b
unfolding made stat_values stat_with
made_back bodies.Empty plain = refl
made_back (bodies.Path path) plain = refl
made_back (bodies.Stat stat) plain = refl
made_back (bodies.Content content stat) plain = refl
made_back (bodies.Names names) plain = refl
made_back (bodies.NamesStat names stat) plain = refl
made_back (bodies.OpenAcl stat) plain = refl
made_back (bodies.Parts rs) plain = absurd (plain refl)
made_back (bodies.PathStat path stat) plain = refl

plain_takes : (code : Opcode) → (code ≡ opcodes.Multi → ⊥) → (bytes : List ℕ) (b : Body) (rest : List ℕ) → plain_body_at code bytes ≡ Ok (b, rest) → Takes (λ x. Spelled Spells (body_values x)) bytes b rest × (shape_of b ≡ shape_for code)
plain_takes code plain bytes b rest e =
    let a = bind_ok (values_at (reply_fields code) bytes) (λ x. Ok (body_from code x.0, x.1)) (b, rest) e in
    let t = values_take (reply_fields code) bytes a.0.0 a.0.1 a.1 in
    let values : a.0.0 ≡ body_values (body_from code a.0.0) = sym (body_with-values code (value_in a.0.0) plain ∙ normals_are (reply_fields code) a.0.0 t.kinds) in
    subst (λ (y : Body × List ℕ). Takes (λ x. Spelled Spells (body_values x)) bytes y.0 y.1 × (shape_of y.0 ≡ shape_for code)) (ok_is (body_from code a.0.0, a.0.1) (b, rest) a.2)
    (record { front = t.took.front; spelled = subst (λ (vs : List Value). Spelled Spells vs t.took.front) values t.took.spelled; parts = t.took.parts }, body_with-shape code (value_in a.0.0))

results_values : (rs : List PartResult) (bytes : List ℕ) → IsListed IsResult IsLastResult rs bytes → Spelled Spells (body_values (bodies.Parts rs)) bytes
results_values rs bytes is =
    let all = spelled_join Spells (flat_map result_values rs) last_result is.0 is.1 (spelled_flat Spells result_values rs is.0 is.2) is.3 in
    rw is.4 all

results_listed : (rs : List PartResult) (bytes : List ℕ) → Spelled Spells (body_values (bodies.Parts rs)) bytes → IsListed IsResult IsLastResult rs bytes
results_listed rs bytes is =
    let s = spelled_split Spells (flat_map result_values rs) last_result bytes is in
    (s.front, s.rest, spelled_items Spells result_values rs s.front s.first, s.second, s.parts)

body_takes : (code : Opcode) (bytes : List ℕ) (b : Body) (rest : List ℕ) → reply_body_at code bytes ≡ Ok (b, rest) → Takes (λ x. Spelled Spells (body_values x)) bytes b rest × (shape_of b ≡ shape_for code)
body_takes opcodes.Multi bytes b rest e =
    let a = bind_ok (all_until_last result_at bytes) (λ x. Ok (bodies.Parts x.0, x.1)) (b, rest) e in
    let t = all_takes IsResult IsLastResult result_at result_next bytes a.0.0 a.0.1 a.1 in
    subst (λ (y : Body × List ℕ). Takes (λ x. Spelled Spells (body_values x)) bytes y.0 y.1 × (shape_of y.0 ≡ results)) (ok_is (bodies.Parts a.0.0, a.0.1) (b, rest) a.2)
    (record { front = t.front; spelled = results_values a.0.0 t.front t.spelled; parts = t.parts }, refl)
body_takes code bytes b rest e = plain_takes code (λ m. absurd cc) bytes b rest e

not_fields : (ks : List Kind) → fields ks ≡ results → ⊥
not_fields ks e = absurd cc

fields_are : (ks js : List Kind) → fields ks ≡ fields js → ks ≡ js
fields_are ks js e = cc

plain_again : (code : Opcode) → (code ≡ opcodes.Multi → ⊥) → (b : Body) → (shape_of b ≡ results → ⊥) → map kind_of (body_values b) ≡ reply_fields code → (bytes rest : List ℕ) → Spelled Spells (body_values b) bytes
    → plain_body_at code (bytes ++ rest) ≡ Ok (b, rest)
plain_again code plain b plain_body kinds bytes rest is =
    let read : values_at (reply_fields code) (bytes ++ rest) ≡ Ok (body_values b, rest) = subst (λ (ks : List Kind). values_at ks (bytes ++ rest) ≡ Ok (body_values b, rest)) kinds (values_again (body_values b) bytes rest is) in
    let back : body_from code (body_values b) ≡ b = made_from code (value_in (body_values b)) plain ∙ ap (λ (ks : List Kind). made ks (value_in (body_values b))) (sym kinds) ∙ made_back b plain_body in
    rw read (ap (λ (x : Body). Ok (x, rest)) back)

fields_again : (code : Opcode) (b : Body) → (shape_of b ≡ results → ⊥) → fields (map kind_of (body_values b)) ≡ shape_for code → (bytes rest : List ℕ) → Spelled Spells (body_values b) bytes → reply_body_at code (bytes ++ rest) ≡ Ok (b, rest)
fields_again opcodes.Multi b plain shape bytes rest is = absurd (not_fields _ shape)
fields_again code b plain shape bytes rest is = plain_again code (λ m. absurd cc) b plain (fields_are _ _ shape) bytes rest is

parts_again : (code : Opcode) (rs : List PartResult) → results ≡ shape_for code → (bytes rest : List ℕ) → IsListed IsResult IsLastResult rs bytes → reply_body_at code (bytes ++ rest) ≡ Ok (bodies.Parts rs, rest)
parts_again opcodes.Multi rs shape bytes rest is = rw (all_again IsResult IsLastResult result_at result_next rs bytes rest is) refl
parts_again code rs shape bytes rest is = absurd (not_fields _ (sym shape))

body_again : (code : Opcode) (b : Body) → shape_of b ≡ shape_for code → (bytes rest : List ℕ) → Spelled Spells (body_values b) bytes → reply_body_at code (bytes ++ rest) ≡ Ok (b, rest)
body_again code (bodies.Parts rs) shape bytes rest is = parts_again code rs shape bytes rest (results_listed rs bytes is)
body_again code b shape bytes rest is = fields_again code b (λ e. not_fields _ e) shape bytes rest is

-- ---- what comes after a header

-- the error of a reply
abbrev pub err_of : Reply → ℤ
err_of (replies.Refused code) = code
err_of (replies.Good body) = pos 0

-- the values of a reply after its header
abbrev pub later_values : Reply → List Value
later_values (replies.Refused code) = []
later_values (replies.Good body) = body_values body

-- a reply with this error, whose values after the header these bytes spell
record IsReadAfter (code : Opcode) (err : ℤ) (bytes : List ℕ) (r : Reply) : Type 0 where
  suits : Suits code r
  err_is : err_of r ≡ err
  spelled : Spelled Spells (later_values r) bytes

good_after : (code : Opcode) (bytes : List ℕ) (r : Reply) (rest : List ℕ) → (reply_body_at code bytes >>= λ x. ended (replies.Good x.0, x.1)) ≡ Ok (r, rest) → IsReadAfter code (pos 0) bytes r
good_after code bytes r rest e =
    let a = bind_ok (reply_body_at code bytes) (λ x. ended (replies.Good x.0, x.1)) (r, rest) e in
    let done : Read Reply = Ok (replies.Good a.0.0, a.0.1) in
    let w = whole_is done r rest a.2 in
    let same = ok_is (replies.Good a.0.0, a.0.1) (r, rest) w.0 in
    let t = body_takes code bytes a.0.0 a.0.1 a.1 in
    let last : a.0.1 ≡ [] = ap (λ (y : Reply × List ℕ). y.1) same ∙ w.1 in
    let whole : bytes ≡ t.0.front = t.0.parts ∙ ap (λ (z : List ℕ). t.0.front ++ z) last ∙ append-nil t.0.front in
    subst (λ (q : Reply). IsReadAfter code (pos 0) bytes q) (ap (λ (y : Reply × List ℕ). y.0) same)
    (record { suits = t.1; err_is = refl; spelled = subst (λ (z : List ℕ). Spelled Spells (body_values a.0.0) z) (sym whole) t.0.spelled })

refused_after : (code : Opcode) (err : ℤ) (bytes : List ℕ) (r : Reply) (rest : List ℕ) → err ≢ pos 0 → ended (replies.Refused err, bytes) ≡ Ok (r, rest) → IsReadAfter code err bytes r
refused_after code err bytes r rest apart e =
    let done : Read Reply = Ok (replies.Refused err, bytes) in
    let w = whole_is done r rest e in
    let same = ok_is (replies.Refused err, bytes) (r, rest) w.0 in
    subst (λ (q : Reply). IsReadAfter code err bytes q) (ap (λ (y : Reply × List ℕ). y.0) same)
    (record { suits = apart; err_is = refl; spelled = ap (λ (y : Reply × List ℕ). y.1) same ∙ w.1 })

zero_is : (err : ℤ) → int_eq err (pos 0) ≡ true → err ≡ pos 0
zero_is err e = (Decides-int_eq err (pos 0)).0 e

is_zero : (err : ℤ) → err ≡ pos 0 → int_eq err (pos 0) ≡ true
is_zero err e = (Decides-int_eq err (pos 0)).1 e

after_if : (good : Bool) (code : Opcode) (err : ℤ) (bytes : List ℕ) (r : Reply) (rest : List ℕ) → int_eq err (pos 0) ≡ good
    → cond good (reply_body_at code bytes >>= λ x. ended (replies.Good x.0, x.1)) (ended (replies.Refused err, bytes)) ≡ Ok (r, rest) → IsReadAfter code err bytes r
after_if true code err bytes r rest good e = subst (λ (n : ℤ). IsReadAfter code n bytes r) (sym (zero_is err good)) (good_after code bytes r rest e)
after_if false code err bytes r rest bad e = refused_after code err bytes r rest (λ z. false-not_true bad (is_zero err z)) e

read_after : (code : Opcode) (err : ℤ) (bytes : List ℕ) (r : Reply) (rest : List ℕ) → reply_at code err bytes ≡ Ok (r, rest) → IsReadAfter code err bytes r
read_after code err bytes r rest e = after_if (int_eq err (pos 0)) code err bytes r rest refl e

apart_is : (b : Bool) (err : ℤ) → int_eq err (pos 0) ≡ b → err ≢ pos 0 → b ≡ false
apart_is false err e apart = refl
apart_is true err e apart = absurd (apart (zero_is err e))

reply_again : (code : Opcode) (r : Reply) (bytes : List ℕ) → Suits code r → Spelled Spells (later_values r) bytes → reply_at code (err_of r) bytes ≡ Ok (r, [])
reply_again code (replies.Refused err) bytes apart is = rw (apart_is (int_eq err (pos 0)) err refl apart, is) refl
reply_again code (replies.Good body) bytes shape is =
    let read : reply_body_at code bytes ≡ Ok (body, []) = ap (reply_body_at code) (sym (append-nil bytes)) ∙ body_again code body shape bytes [] is in
    rw read refl

-- ---- frames

-- what a frame that is read as a reply is
record IsAnsweredBy (frame : List ℕ) (kind xid zxid : ℤ) (r : Reply) : Type 0 where
  long_enough : 16 ≤ length frame
  code : Opcode
  rest : List ℕ
  xid_is : front_int frame ≡ xid
  zxid_is : front_long (drop 4 frame) ≡ zxid
  numbered : opcode_numbered kind ≡ Some code
  body : reply_at code (front_int (drop 12 frame)) (drop 16 frame) ≡ Ok (r, rest)

answered_read : (frame : List ℕ) (kind xid zxid : ℤ) (r : Reply) (code : Opcode) (read : Read Reply) → 16 ≤ length frame → opcode_numbered kind ≡ Some code → reply_at code (front_int (drop 12 frame)) (drop 16 frame) ≡ read
    → answered_as (front_int frame) (front_long (drop 4 frame)) (length frame) read ≡ Answers xid zxid r → IsAnsweredBy frame kind xid zxid r
answered_read frame kind xid zxid r code (Err left) long_enough numbered body e = absurd cc
answered_read frame kind xid zxid r code (Ok x) long_enough numbered body e =
    let first : front_int frame ≡ xid = cc in
    let second : front_long (drop 4 frame) ≡ zxid = cc in
    let same : x.0 ≡ r = cc in
    record { long_enough = long_enough; code = code; rest = x.1; xid_is = first; zxid_is = second; numbered = numbered; body = body ∙ ap (λ (q : Reply). Ok (q, x.1)) same }

answered_kind : (frame : List ℕ) (kind xid zxid : ℤ) (r : Reply) (o : Option Opcode) → 16 ≤ length frame → opcode_numbered kind ≡ o
    → reply_to (front_int frame) (front_long (drop 4 frame)) (front_int (drop 12 frame)) kind (length frame) (drop 16 frame) o ≡ Answers xid zxid r → IsAnsweredBy frame kind xid zxid r
answered_kind frame kind xid zxid r None long_enough numbered e = absurd cc
answered_kind frame kind xid zxid r (Some code) long_enough numbered e = answered_read frame kind xid zxid r code (reply_at code (front_int (drop 12 frame)) (drop 16 frame)) long_enough numbered refl e

answered_long : (frame : List ℕ) (kind xid zxid : ℤ) (r : Reply) (short : Bool) → ltb (length frame) 16 ≡ short
    → cond short NoHeader (reply_to (front_int frame) (front_long (drop 4 frame)) (front_int (drop 12 frame)) kind (length frame) (drop 16 frame) (opcode_numbered kind)) ≡ Answers xid zxid r → IsAnsweredBy frame kind xid zxid r
answered_long frame kind xid zxid r true short e = absurd cc
answered_long frame kind xid zxid r false enough e = answered_kind frame kind xid zxid r (opcode_numbered kind) (ltb-false _ _ enough) refl e

answered_by : (frame : List ℕ) (kind xid zxid : ℤ) (r : Reply) → read_reply frame kind ≡ Answers xid zxid r → IsAnsweredBy frame kind xid zxid r
unfolding read_reply
answered_by frame kind xid zxid r e = answered_long frame kind xid zxid r (ltb (length frame) 16) refl e

values_of_reply : (xid zxid : ℤ) (r : Reply) → reply_values xid zxid r ≡ reply_header xid zxid (err_of r) ++ later_values r
values_of_reply xid zxid (replies.Refused code) = refl
values_of_reply xid zxid (replies.Good body) = refl

same_code : (c d : Opcode) → Some c ≡ Some d → c ≡ d
same_code c d e = cc

pub found : (frame : List ℕ) (kind : ℤ) (code : Opcode) (xid zxid : ℤ) (r : Reply) → opcode_numbered kind ≡ Some code → read_reply frame kind ≡ Answers xid zxid r → IsReply code xid zxid r frame
found frame kind code xid zxid r numbered e =
    let a = answered_by frame kind xid zxid r e in
    let b = read_after a.code (front_int (drop 12 frame)) (drop 16 frame) r a.rest a.body in
    let code_is : a.code ≡ code = same_code a.code code (sym a.numbered ∙ numbered) in
    let t = first_int frame xid (omega (arith, a.long_enough)) a.xid_is in
    let u = first_long (drop 4 frame) zxid (omega (arith, a.long_enough, length-drop 4 frame)) a.zxid_is in
    let second : drop 8 (drop 4 frame) ≡ drop 12 frame = drop-drop 8 4 frame in
    let v = first_int (drop 12 frame) (err_of r) (omega (arith, a.long_enough, length-drop 12 frame)) (sym b.err_is) in
    let third : drop 4 (drop 12 frame) ≡ drop 16 frame = drop-drop 4 12 frame in
    let rest_is : drop 12 frame ≡ v.front ++ drop 16 frame = v.parts ∙ ap (λ (z : List ℕ). v.front ++ z) third in
    let middle : drop 4 frame ≡ u.front ++ (v.front ++ drop 16 frame) = u.parts ∙ ap (λ (z : List ℕ). u.front ++ z) (second ∙ rest_is) in
    let spelled : Spelled Spells (reply_header xid zxid (err_of r) ++ later_values r) frame = (t.front, drop 4 frame, t.spelled, (u.front, v.front ++ drop 16 frame, u.spelled, (v.front, drop 16 frame, v.spelled, b.spelled, refl), middle), t.parts) in
    record { suits = subst (λ (c : Opcode). Suits c r) code_is b.suits; spelled = subst (λ (vs : List Value). Spelled Spells vs frame) (sym (values_of_reply xid zxid r)) spelled }

pub only : (frame : List ℕ) (kind : ℤ) (code : Opcode) (xid zxid : ℤ) (r : Reply) → opcode_numbered kind ≡ Some code → IsReply code xid zxid r frame → read_reply frame kind ≡ Answers xid zxid r
only frame kind code xid zxid r numbered is =
    let s : Spelled Spells (reply_header xid zxid (err_of r) ++ later_values r) frame = subst (λ (vs : List Value). Spelled Spells vs frame) (values_of_reply xid zxid r) is.spelled in
    let f1 = s.0 in
    let f2 = s.3.0 in
    let f3 = s.3.3.0 in
    let body = s.3.3.1 in
    let middle : s.1 ≡ f2 ++ (f3 ++ body) = s.3.4 ∙ ap (λ (z : List ℕ). f2 ++ z) s.3.3.4 in
    let grouped : frame ≡ f1 ++ (f2 ++ (f3 ++ body)) = s.4 ∙ ap (λ (z : List ℕ). f1 ++ z) middle in
    let at4 : drop 4 frame ≡ f2 ++ (f3 ++ body) = ap (drop 4) grouped ∙ drop_at f1 (f2 ++ (f3 ++ body)) 4 s.2.0 in
    let at12 : drop 12 frame ≡ f3 ++ body = sym (drop-drop 8 4 frame) ∙ ap (drop 8) at4 ∙ drop_at f2 (f3 ++ body) 8 s.3.2.0 in
    let at16 : drop 16 frame ≡ body = sym (drop-drop 4 12 frame) ∙ ap (drop 4) at12 ∙ drop_at f3 body 4 s.3.3.2.0 in
    let enough : 16 ≤ length frame = omega (arith, ap length grouped, length-append f1 (f2 ++ (f3 ++ body)), length-append f2 (f3 ++ body), length-append f3 body, s.2.0, s.3.2.0, s.3.3.2.0) in
    let first : front_int frame ≡ xid = ap front_int grouped ∙ front_int_of xid f1 (f2 ++ (f3 ++ body)) s.2 in
    let second : front_long (drop 4 frame) ≡ zxid = ap front_long at4 ∙ front_long_of zxid f2 (f3 ++ body) s.3.2 in
    let err : front_int (drop 12 frame) ≡ err_of r = ap front_int at12 ∙ front_int_of (err_of r) f3 body s.3.3.2 in
    let read : reply_at code (front_int (drop 12 frame)) (drop 16 frame) ≡ Ok (r, []) =
    ap (λ (n : ℤ). reply_at code n (drop 16 frame)) err ∙ ap (reply_at code (err_of r)) at16 ∙ reply_again code r body is.suits s.3.3.3 in
    reads_answers frame kind code r [] enough numbered read ∙ ap (λ (n : ℤ). Answers n (front_long (drop 4 frame)) r) first ∙ ap (λ (z : ℤ). Answers xid z r) second

answers_is : (xid other_xid zxid other_zxid : ℤ) (r other : Reply) → Answers xid zxid r ≡ Answers other_xid other_zxid other → (xid ≡ other_xid) × (zxid ≡ other_zxid) × (r ≡ other)
answers_is xid other_xid zxid other_zxid r other e = (cc, cc, cc)

-- a frame has one reading
pub one : (frame : List ℕ) (code : Opcode) (xid other_xid zxid other_zxid : ℤ) (r other : Reply) → IsReply code xid zxid r frame → IsReply code other_xid other_zxid other frame → (xid ≡ other_xid) × (zxid ≡ other_zxid) × (r ≡ other)
one frame code xid other_xid zxid other_zxid r other is also =
    answers_is xid other_xid zxid other_zxid r other
    (sym (only frame (opcode_number code) code xid zxid r (opcode_numbered-number_of code) is) ∙ only frame (opcode_number code) code other_xid other_zxid other (opcode_numbered-number_of code) also)
