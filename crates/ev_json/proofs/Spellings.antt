-- Answers that are spelled as etcd's gateway spells them, part by part.
use Rattle.std.proofs.Common.{inl, inr, cond, length, drop, get_or, ◌+◌, ◌<◌, ◌≤◌, ◌≡◌, ℕ, List, [], ◌∷◌, ◌++◌, Bool, true, false, Option, Some, None, Result, Ok, refl, sym, ap, ◌∙◌, append_assoc, arith}
use Rattle.std.specs.Prelude.{ℤ, codes}
use Rattle.std.proofs.lemmas.List.{append-nil, drop_all}
use Rattle.ev_json.proofs.Pairs.{cut}
use Rattle.ev_types.specs.declared.ask.Act.{Act}
use Rattle.ev_types.specs.declared.ask.Act.TheVariants as act
use Rattle.ev_types.specs.declared.ask.RangeReq.{RangeReq}
use Rattle.ev_types.specs.declared.ask.TxnReq.{TxnReq}
use Rattle.ev_types.specs.declared.answer.Answer.{Answer}
use Rattle.ev_types.specs.declared.answer.Answer.TheVariants as answer
use Rattle.ev_types.specs.declared.ask.Ask.{Ask}
use Rattle.ev_types.specs.declared.ask.Ask.TheVariants as ask
use Rattle.ev_json.specs.Bodies.{ReadsAs, message_body, reads}
use Rattle.std.specs.Str.{IsUtf8}
use Rattle.serde_json.specs.Read.{read}
use Rattle.std.specs.Borrow.{Bor}
use Rattle.json.specs.Token.{Token, begin_object, end_object}
use Rattle.json.specs.Token as token
use Rattle.json.specs.Print.{print, print_from, escape_byte}
use Rattle.json.specs.Json.{Json, string, array, object, Items, no_items, item, Members, no_members, member}
use Rattle.json.specs.Tree.{json_tokens, items_tokens, members_tokens}
use Rattle.serde_json.specs.Data as value
use Rattle.serde_json.specs.Data.{Data}
use Rattle.ev_types.specs.declared.answer.Kv.{Kv}
use Rattle.ev_types.specs.declared.answer.ActAns.{ActAns}
use Rattle.ev_types.specs.declared.answer.ActAns.TheVariants as part
use Rattle.ev_fields.specs.declared.field.Field.{Field}
use Rattle.ev_fields.specs.declared.field.Field.TheVariants as field
use Rattle.ev_fields.specs.Names.{snake, camel}
use Rattle.ev_fields.specs.Kinds.{each, member_of, count_of, bytes_of, message_in, flag_in, items_in, list_in, without}
use Rattle.ev_fields.specs.Straight.{IsContent, IsContentIf, Prints, count_if, lease_if, bytes_if}
use Rattle.ev_fields.proofs.Spelled.{read-print, name_text, member_if, first_then, member_then, member_if_then, closes, string_then, true_text, flag_if, flag_if_then, array_then, after_comma, closes_array, count_in-of, needed_count-of, count_in-if, lease_in-if, needed_bytes-of, bytes_in-if}
use Rattle.ev_json.specs.Answers.{answer_in, kv_in, found_in, revision_in, held, txn_answer_in, put_done_in, deleted_in, range_part_in, part_in, parts_in}
use Rattle.ev_json.specs.Spelled.{IsSpelled, AreSpelled, AreSpelledIf, IsFlagged}

-- a member's text after other members, and as the first one, up to the quote of its value
abbrev pub later_text : List ℕ → List ℕ
later_text name = 44 ∷ (name_text name ++ 34 ∷ [])

abbrev pub first_text : List ℕ → List ℕ
first_text name = 123 ∷ (name_text name ++ 34 ∷ [])

abbrev pub value_if : List ℕ → Option (Bor (List ℕ)) → value.Members → value.Members
value_if name None ms = ms
value_if name (Some s) ms = value.member name (value.string s.now) ms

-- ---- a key with its value

abbrev kv_json : List ℕ → List ℕ → List ℕ → List ℕ → Option (Bor (List ℕ)) → Option (Bor (List ℕ)) → Json
kv_json key create changed version content lease =
    object (member (codes "key") (string key) (member (codes "create_revision") (string create) (member (codes "mod_revision") (string changed) (member (codes "version") (string version)
    (member_if (codes "value") content (member_if (codes "lease") lease no_members))))))

abbrev kv_value : List ℕ → List ℕ → List ℕ → List ℕ → Option (Bor (List ℕ)) → Option (Bor (List ℕ)) → Data
kv_value key create changed version content lease =
    value.object (value.member (codes "create_revision") (value.string create) (value.member (codes "key") (value.string key)
    (value_if (codes "lease") lease (value.member (codes "mod_revision") (value.string changed)
    (value_if (codes "value") content (value.member (codes "version") (value.string version) value.no_members))))))

kv_prints : (b0 b1 b2 b3 b4 b5 b6 rest key create changed version : List ℕ) (content lease : Option (Bor (List ℕ)))
    → IsContent (first_text (codes "key")) b0 key b1 → IsContent (later_text (codes "create_revision")) b1 create b2 → IsContent (later_text (codes "mod_revision")) b2 changed b3
    → IsContent (later_text (codes "version")) b3 version b4 → IsContentIf (later_text (codes "value")) b4 content b5 → IsContentIf (later_text (codes "lease")) b5 lease b6 → b6 ≡ 125 ∷ rest
    → (more : List Token) → rest ≡ print_from true more → b0 ≡ print_from false (json_tokens (kv_json key create changed version content lease) ++ more)
kv_prints b0 b1 b2 b3 b4 b5 b6 rest key create changed version content lease h0 h1 h2 h3 h4 h5 h6 more e =
    let m5 : Members = member_if (codes "lease") lease no_members in
    let m4 : Members = member_if (codes "value") content m5 in
    let m3 : Members = member (codes "version") (string version) m4 in
    let m2 : Members = member (codes "mod_revision") (string changed) m3 in
    let m1 : Members = member (codes "create_revision") (string create) m2 in
    let e6 = closes b6 rest more h6 e in
    let e5 = member_if_then (codes "lease") b5 lease b6 no_members more refl h5 e6 in
    let e4 = member_if_then (codes "value") b4 content b5 m5 more refl h4 e5 in
    let e3 = member_then (codes "version") version b3 b4 m4 more refl h3 e4 in
    let e2 = member_then (codes "mod_revision") changed b2 b3 m3 more refl h2 e3 in
    let e1 = member_then (codes "create_revision") create b1 b2 m2 more refl h1 e2 in
    first_then (codes "key") key b0 b1 m1 more refl h0 e1

pub kv_spelled : (b0 b1 b2 b3 b4 b5 b6 rest key create changed version : List ℕ) (content lease : Option (Bor (List ℕ))) (kv : Kv)
    → IsContent (first_text (codes "key")) b0 key b1 → IsContent (later_text (codes "create_revision")) b1 create b2 → IsContent (later_text (codes "mod_revision")) b2 changed b3
    → IsContent (later_text (codes "version")) b3 version b4 → IsContentIf (later_text (codes "value")) b4 content b5 → IsContentIf (later_text (codes "lease")) b5 lease b6 → b6 ≡ 125 ∷ rest
    → count_of (value.string create) ≡ Some kv.create_revision → count_of (value.string changed) ≡ Some kv.mod_revision → count_of (value.string version) ≡ Some kv.version
    → lease_if lease ≡ Some kv.lease → bytes_of (value.string key) ≡ Some kv.key → bytes_if content ≡ Some kv.value → IsSpelled kv_in 1 b0 kv rest
unfolding kv_in member_of snake camel
kv_spelled b0 b1 b2 b3 b4 b5 b6 rest key create changed version None None kv h0 h1 h2 h3 h4 h5 h6 n0 n1 n2 n3 n4 n5 =
    let d = kv_value key create changed version None None in
    record {
      spelled = kv_json key create changed version None None;
      value = d;
      reads = refl;
      gives = rw (
        count_in-of field.CreateRevision d create kv.create_revision refl n0,
        needed_bytes-of field.Key d key kv.key refl n4,
        lease_in-if field.Lease d None kv.lease refl n3,
        count_in-of field.ModRevision d changed kv.mod_revision refl n1,
        bytes_in-if field.Value d None kv.value refl n5,
        count_in-of field.Version d version kv.version refl n2,
      ) refl;
      numbers = (tt, (tt, (tt, (tt, tt))));
      shallow = omega arith;
      prints = kv_prints b0 b1 b2 b3 b4 b5 b6 rest key create changed version None None h0 h1 h2 h3 h4 h5 h6;
    }
kv_spelled b0 b1 b2 b3 b4 b5 b6 rest key create changed version None (Some i) kv h0 h1 h2 h3 h4 h5 h6 n0 n1 n2 n3 n4 n5 =
    let d = kv_value key create changed version None (Some i) in
    record {
      spelled = kv_json key create changed version None (Some i);
      value = d;
      reads = refl;
      gives = rw (
        count_in-of field.CreateRevision d create kv.create_revision refl n0,
        needed_bytes-of field.Key d key kv.key refl n4,
        lease_in-if field.Lease d (Some i) kv.lease refl n3,
        count_in-of field.ModRevision d changed kv.mod_revision refl n1,
        bytes_in-if field.Value d None kv.value refl n5,
        count_in-of field.Version d version kv.version refl n2,
      ) refl;
      numbers = (tt, (tt, (tt, (tt, (tt, tt)))));
      shallow = omega arith;
      prints = kv_prints b0 b1 b2 b3 b4 b5 b6 rest key create changed version None (Some i) h0 h1 h2 h3 h4 h5 h6;
    }
kv_spelled b0 b1 b2 b3 b4 b5 b6 rest key create changed version (Some v) None kv h0 h1 h2 h3 h4 h5 h6 n0 n1 n2 n3 n4 n5 =
    let d = kv_value key create changed version (Some v) None in
    record {
      spelled = kv_json key create changed version (Some v) None;
      value = d;
      reads = refl;
      gives = rw (
        count_in-of field.CreateRevision d create kv.create_revision refl n0,
        needed_bytes-of field.Key d key kv.key refl n4,
        lease_in-if field.Lease d None kv.lease refl n3,
        count_in-of field.ModRevision d changed kv.mod_revision refl n1,
        bytes_in-if field.Value d (Some v) kv.value refl n5,
        count_in-of field.Version d version kv.version refl n2,
      ) refl;
      numbers = (tt, (tt, (tt, (tt, (tt, tt)))));
      shallow = omega arith;
      prints = kv_prints b0 b1 b2 b3 b4 b5 b6 rest key create changed version (Some v) None h0 h1 h2 h3 h4 h5 h6;
    }
kv_spelled b0 b1 b2 b3 b4 b5 b6 rest key create changed version (Some v) (Some i) kv h0 h1 h2 h3 h4 h5 h6 n0 n1 n2 n3 n4 n5 =
    let d = kv_value key create changed version (Some v) (Some i) in
    record {
      spelled = kv_json key create changed version (Some v) (Some i);
      value = d;
      reads = refl;
      gives = rw (
        count_in-of field.CreateRevision d create kv.create_revision refl n0,
        needed_bytes-of field.Key d key kv.key refl n4,
        lease_in-if field.Lease d (Some i) kv.lease refl n3,
        count_in-of field.ModRevision d changed kv.mod_revision refl n1,
        bytes_in-if field.Value d (Some v) kv.value refl n5,
        count_in-of field.Version d version kv.version refl n2,
      ) refl;
      numbers = (tt, (tt, (tt, (tt, (tt, (tt, tt))))));
      shallow = omega arith;
      prints = kv_prints b0 b1 b2 b3 b4 b5 b6 rest key create changed version (Some v) (Some i) h0 h1 h2 h3 h4 h5 h6;
    }

-- ---- items one after another

-- the items that are still to come make the whole list
pub record Leads {A : Type 0} (all others : value.Items → Result (List A) Field) (level : ℕ) (start : List ℕ) (later : Bool) (bytes : List ℕ) (front : List A) : Type 0 where
  pub leads : (xs : List A) (rest : List ℕ) → AreSpelled others level later bytes xs rest → AreSpelled all level false start (front ++ xs) rest

pub leads_first : {A : Type 0} (all : value.Items → Result (List A) Field) (level : ℕ) (start : List ℕ) (front : List A) → front ≡ [] → Leads all all level start false start front
leads_first all level start front e = record { leads = λ xs rest h. rw e h }

one_more : {A : Type 0} (reading : Data → Result A Field) (now others : value.Items → Result (List A) Field) (level : ℕ) (later : Bool) (b next mid rest : List ℕ) (x : A) (xs : List A)
    → b ≡ cond later (44 ∷ []) [] ++ next → IsSpelled reading level next x mid → ((d : Data) (ds : value.Items) → reading d ≡ Ok x → others ds ≡ Ok xs → now (value.item d ds) ≡ Ok (x ∷ xs))
    → AreSpelled others level true mid xs rest → AreSpelled now level later b (x ∷ xs) rest
one_more reading now others level later b next mid rest x xs e h step t =
    record {
      spelled = item h.spelled t.spelled;
      value = value.item h.value t.value;
      reads = rw (h.reads, t.reads) refl;
      gives = step h.value t.value h.gives t.gives;
      numbers = (h.numbers, t.numbers);
      shallow = omega (arith, h.shallow, t.shallow);
      prints = λ more is.
          e ∙ ap (λ (l : List ℕ). cond later (44 ∷ []) [] ++ l) (h.prints (items_tokens t.spelled ++ more) (t.prints more is)) ∙ after_comma later h.spelled (items_tokens t.spelled ++ more)
          ∙ ap (print_from later) (sym (append_assoc (json_tokens h.spelled) (items_tokens t.spelled) more));
    }

pub leads_on : {A : Type 0} (reading : Data → Result A Field) (all now others : value.Items → Result (List A) Field) (level : ℕ) (start : List ℕ) (later : Bool) (b next mid : List ℕ) (front : List A) (x : A)
    → b ≡ cond later (44 ∷ []) [] ++ next → IsSpelled reading level next x mid
    → ((xs : List A) (d : Data) (ds : value.Items) → reading d ≡ Ok x → others ds ≡ Ok xs → now (value.item d ds) ≡ Ok (x ∷ xs))
    → Leads all now level start later b front → Leads all others level start true mid (front ++ x ∷ [])
leads_on {A = A} reading all now others level start later b next mid front x e h step so_far =
    record { leads = λ xs rest t. rw (append_assoc front (x ∷ []) xs) (so_far.leads (x ∷ xs) rest (one_more reading now others level later b next mid rest x xs e h (step xs) t)) }

pub leads_last : {A : Type 0} (all now : value.Items → Result (List A) Field) (level : ℕ) (start : List ℕ) (later : Bool) (b rest : List ℕ) (front : List A)
    → b ≡ 93 ∷ rest → now value.no_items ≡ Ok [] → Leads all now level start later b front → AreSpelled all level false start front rest
leads_last {A = A} all now level start later b rest front e none so_far =
    let last : AreSpelled now level later b [] rest = record {
      spelled = no_items;
      value = value.no_items;
      reads = refl;
      gives = none;
      numbers = tt;
      shallow = omega arith;
      prints = λ more is. closes_array later b rest more e is;
    } in
    rw (sym (append-nil front)) (so_far.leads [] rest last)

pub each-none : {A : Type 0} (reading : Data → Result A Field) → each reading value.no_items ≡ Ok []
unfolding each
each-none reading = refl

pub each-more : {A : Type 0} (reading : Data → Result A Field) (x : A) (xs : List A) (d : Data) (ds : value.Items) → reading d ≡ Ok x → each reading ds ≡ Ok xs → each reading (value.item d ds) ≡ Ok (x ∷ xs)
unfolding each
each-more reading x xs d ds h t = rw (h, t) refl

-- ---- the answers to operations

-- the text up to the digits of an answer's own revision
abbrev part_front : List ℕ → List ℕ
part_front name = 123 ∷ (name_text name ++ 123 ∷ (name_text (codes "header") ++ 123 ∷ name_text (codes "revision")))

abbrev pub part_text : List ℕ → List ℕ
part_text name = part_front name ++ 34 ∷ []

abbrev part_json : List ℕ → List ℕ → Members → Json
part_json name revision ms = object (member name (object (member (codes "header") (object (member (codes "revision") (string revision) no_members)) ms)) no_members)

abbrev header_value : List ℕ → Data
header_value revision = value.object (value.member (codes "revision") (value.string revision) value.no_members)

part_prints : (name revision b0 b1 b2 rest : List ℕ) (ms : Members)
    → ((ts : List Token) → part_front name ++ print_from false (token.string revision ∷ ts) ≡ print_from false (begin_object ∷ token.key name ∷ begin_object ∷ token.key (codes "header") ∷ begin_object ∷ token.key (codes "revision") ∷ token.string revision ∷ ts))
    → IsContent (part_text name) b0 revision b1 → b1 ≡ 125 ∷ b2 → ((more : List Token) → rest ≡ print_from true more → b2 ≡ print_from true (members_tokens ms ++ (end_object ∷ more)))
    → Prints false (json_tokens (part_json name revision ms)) b0 true rest
unfolding print_from
part_prints name revision b0 b1 b2 rest ms front h0 h1 inner more e =
    let after : b1 ≡ print_from true (end_object ∷ (members_tokens ms ++ (end_object ∷ more))) = h1 ∙ ap (λ (l : List ℕ). 125 ∷ l) (inner more e) in
    string_then (part_front name) revision b0 b1 (end_object ∷ (members_tokens ms ++ (end_object ∷ more))) h0 after ∙ front (end_object ∷ (members_tokens ms ++ (end_object ∷ more)))
    ∙ ap (λ (ts : List Token). print_from false (begin_object ∷ token.key name ∷ begin_object ∷ token.key (codes "header") ∷ begin_object ∷ token.key (codes "revision") ∷ token.string revision ∷ end_object ∷ ts)) (sym (append_assoc (members_tokens ms) (end_object ∷ []) more))

both_close : (old rest : List ℕ) (more : List Token) → old ≡ 125 ∷ 125 ∷ rest → rest ≡ print_from true more → old ≡ print_from true (members_tokens no_members ++ (end_object ∷ more))
unfolding print_from
both_close old rest more h e = rw (h, e) refl

pub put_spelled : (b0 b1 rest revision : List ℕ) → IsContent (part_text (codes "response_put")) b0 revision b1 → b1 ≡ 125 ∷ 125 ∷ 125 ∷ rest → IsSpelled put_done_in 5 b0 part.Put rest
unfolding print_from escape_byte put_done_in message_in without member_of snake camel
put_spelled b0 b1 rest revision h0 h1 =
    record {
      spelled = part_json (codes "response_put") revision no_members;
      value = value.object (value.member (codes "response_put") (value.object (value.member (codes "header") (header_value revision) value.no_members)) value.no_members);
      reads = refl;
      gives = refl;
      numbers = (((tt, tt), tt), tt);
      shallow = omega arith;
      prints = part_prints (codes "response_put") revision b0 b1 (125 ∷ 125 ∷ rest) rest no_members (λ ts. refl) h0 h1 (λ more e. both_close (125 ∷ 125 ∷ rest) rest more refl e);
    }

deleted_prints : (b0 b1 b2 b3 rest revision : List ℕ) (count : Option (Bor (List ℕ))) → IsContent (part_text (codes "response_delete_range")) b0 revision b1 → b1 ≡ 125 ∷ b2
    → IsContentIf (later_text (codes "deleted")) b2 count b3 → b3 ≡ 125 ∷ 125 ∷ rest → Prints false (json_tokens (part_json (codes "response_delete_range") revision (member_if (codes "deleted") count no_members))) b0 true rest
unfolding print_from escape_byte
deleted_prints b0 b1 b2 b3 rest revision count h0 h1 h2 h3 =
    part_prints (codes "response_delete_range") revision b0 b1 b2 rest (member_if (codes "deleted") count no_members) (λ ts. refl) h0 h1
    (λ more e. member_if_then (codes "deleted") b2 count b3 no_members (end_object ∷ more) refl h2 (both_close b3 rest more h3 e))

pub deleted_spelled : (b0 b1 b2 b3 rest revision : List ℕ) (count : Option (Bor (List ℕ))) (n : ℤ) → IsContent (part_text (codes "response_delete_range")) b0 revision b1 → b1 ≡ 125 ∷ b2
    → IsContentIf (later_text (codes "deleted")) b2 count b3 → b3 ≡ 125 ∷ 125 ∷ rest → count_if count ≡ Some n → IsSpelled deleted_in 5 b0 (part.Deleted n) rest
unfolding deleted_in message_in without member_of snake camel
deleted_spelled b0 b1 b2 b3 rest revision None n h0 h1 h2 h3 counted =
    let d = value.object (value_if (codes "deleted") None (value.member (codes "header") (header_value revision) value.no_members)) in
    record {
      spelled = part_json (codes "response_delete_range") revision (member_if (codes "deleted") None no_members);
      value = value.object (value.member (codes "response_delete_range") d value.no_members);
      reads = refl;
      gives = rw (count_in-if field.Deleted d None n refl counted) refl;
      numbers = (((tt, tt), tt), tt);
      shallow = omega arith;
      prints = deleted_prints b0 b1 b2 b3 rest revision None h0 h1 h2 h3;
    }
deleted_spelled b0 b1 b2 b3 rest revision (Some i) n h0 h1 h2 h3 counted =
    let d = value.object (value_if (codes "deleted") (Some i) (value.member (codes "header") (header_value revision) value.no_members)) in
    record {
      spelled = part_json (codes "response_delete_range") revision (member_if (codes "deleted") (Some i) no_members);
      value = value.object (value.member (codes "response_delete_range") d value.no_members);
      reads = refl;
      gives = rw (count_in-if field.Deleted d (Some i) n refl counted) refl;
      numbers = (((tt, tt), (tt, tt)), tt);
      shallow = omega arith;
      prints = deleted_prints b0 b1 b2 b3 rest revision (Some i) h0 h1 h2 h3;
    }

-- ---- lists of answers

abbrev pub parts_from : List Act → ℕ → value.Items → Result (List ActAns) Field
parts_from acts i ds = parts_in (drop i acts) ds

pub parts-more : (acts : List Act) (i : ℕ) (a : Act) → i < length acts → a ≡ get_or acts i a → (x : ActAns) (xs : List ActAns) (d : Data) (ds : value.Items)
    → part_in a d ≡ Ok x → parts_from acts (i + 1) ds ≡ Ok xs → parts_from acts i (value.item d ds) ≡ Ok (x ∷ xs)
unfolding parts_in
parts-more acts i a lt is x xs d ds h t = rw (cut acts i a lt is, h, t) refl

pub parts-none : (acts : List Act) (i : ℕ) → length acts ≤ i → parts_from acts i value.no_items ≡ Ok []
unfolding parts_in
parts-none acts i le = rw (drop_all i acts le) refl

pub parts-empty : (acts : List Act) → length acts ≡ 0 → parts_in acts value.no_items ≡ Ok []
unfolding parts_in
parts-empty [] e = refl
parts-empty (a ∷ acts) e = absurd (omega (arith, e))

pub ruleset nothing_read = (each-none, parts-empty)

-- ---- an answer to each kind of operation

pub part-put : (a : Act) (key content : List ℕ) (lease : ℤ) (b rest : List ℕ) (x : ActAns) → a ≡ act.Put key content lease → IsSpelled put_done_in 5 b x rest → IsSpelled (part_in a) 5 b x rest
unfolding part_in
part-put a key content lease b rest x e h = record { spelled = h.spelled; value = h.value; reads = h.reads; gives = rw e h.gives; numbers = h.numbers; shallow = h.shallow; prints = h.prints }

pub part-delete : (a : Act) (key : List ℕ) (b rest : List ℕ) (x : ActAns) → a ≡ act.Delete key → IsSpelled deleted_in 5 b x rest → IsSpelled (part_in a) 5 b x rest
unfolding part_in
part-delete a key b rest x e h = record { spelled = h.spelled; value = h.value; reads = h.reads; gives = rw e h.gives; numbers = h.numbers; shallow = h.shallow; prints = h.prints }

pub part-range : (a : Act) (r : RangeReq) (b rest : List ℕ) (x : ActAns) → a ≡ act.Range r → IsSpelled range_part_in 5 b x rest → IsSpelled (part_in a) 5 b x rest
unfolding part_in
part-range a r b rest x e h = record { spelled = h.spelled; value = h.value; reads = h.reads; gives = rw e h.gives; numbers = h.numbers; shallow = h.shallow; prints = h.prints }

pub ruleset by_kind = (part-put, part-delete, part-range)

-- ---- the answer to a range

-- a member that is an array, after other members, up to its bracket
abbrev pub array_text : List ℕ → List ℕ
array_text name = 44 ∷ (name_text name ++ 91 ∷ [])

abbrev pub flag_text : List ℕ → List ℕ
flag_text name = 44 ∷ (name_text name ++ true_text)

abbrev flag_value : List ℕ → Bool → value.Members → value.Members
flag_value name true ms = value.member name (value.boolean true) ms
flag_value name false ms = ms

abbrev array_if : List ℕ → Option Items → Members → Members
array_if name None ms = ms
array_if name (Some js) ms = member name (array js) ms

abbrev array_value : List ℕ → Option value.Items → value.Members → value.Members
array_value name None ms = ms
array_value name (Some ds) ms = value.member name (value.array ds) ms

abbrev range_members : Option Items → Bool → Option (Bor (List ℕ)) → Members
range_members kvs more count = array_if (codes "kvs") kvs (flag_if (codes "more") more (member_if (codes "count") count no_members))

range_prints : (b0 b1 b2 b3 b4 b5 rest revision : List ℕ) (kvs : Option Items) (flag : Bool) (count : Option (Bor (List ℕ))) → IsContent (part_text (codes "response_range")) b0 revision b1 → b1 ≡ 125 ∷ b2
    → ((ms : Members) (more : List Token) → b3 ≡ print_from true (members_tokens ms ++ more) → b2 ≡ print_from true (members_tokens (array_if (codes "kvs") kvs ms) ++ more))
    → IsFlagged (flag_text (codes "more")) b3 flag b4 → IsContentIf (later_text (codes "count")) b4 count b5 → b5 ≡ 125 ∷ 125 ∷ rest
    → Prints false (json_tokens (part_json (codes "response_range") revision (range_members kvs flag count))) b0 true rest
unfolding print_from escape_byte
range_prints b0 b1 b2 b3 b4 b5 rest revision kvs flag count h0 h1 h2 h3 h4 h5 =
    let m4 : Members = member_if (codes "count") count no_members in
    let m3 : Members = flag_if (codes "more") flag m4 in
    part_prints (codes "response_range") revision b0 b1 b2 rest (range_members kvs flag count) (λ ts. refl) h0 h1
    (λ more e. h2 m3 (end_object ∷ more) (flag_if_then (codes "more") b3 flag b4 m4 (end_object ∷ more) refl h3 (member_if_then (codes "count") b4 count b5 no_members (end_object ∷ more) refl h4 (both_close b5 rest more h5 e))))

pub range_spelled : (b0 b1 b2 b3 b4 b5 rest revision : List ℕ) (kvs : List Kv) (flag : Bool) (count : Option (Bor (List ℕ))) (n : ℤ) → IsContent (part_text (codes "response_range")) b0 revision b1 → b1 ≡ 125 ∷ b2
    → AreSpelledIf (each kv_in) 1 (array_text (codes "kvs")) b2 kvs b3 → IsFlagged (flag_text (codes "more")) b3 flag b4 → IsContentIf (later_text (codes "count")) b4 count b5 → b5 ≡ 125 ∷ 125 ∷ rest
    → count_if count ≡ Some n → IsSpelled range_part_in 5 b0 (part.Range (record { kvs = kvs; more = flag; count = n })) rest
unfolding range_part_in found_in message_in flag_in items_in list_in without member_of snake camel
range_spelled b0 b1 b2 b3 b4 b5 rest revision kvs true None n h0 h1 (inl h) h3 h4 h5 counted =
    let d = value.object (value_if (codes "count") None (value.member (codes "header") (header_value revision) (array_value (codes "kvs") None (flag_value (codes "more") true value.no_members)))) in
    record {
      spelled = part_json (codes "response_range") revision (range_members None true None);
      value = value.object (value.member (codes "response_range") d value.no_members);
      reads = refl;
      gives = rw (count_in-if field.Count d None n refl counted, h.1) refl;
      numbers = (((tt, tt), (tt, tt)), tt);
      shallow = omega arith;
      prints = range_prints b0 b1 b2 b3 b4 b5 rest revision None true None h0 h1 (λ ms more e. h.0 ∙ e) h3 h4 h5;
    }
range_spelled b0 b1 b2 b3 b4 b5 rest revision kvs true (Some i) n h0 h1 (inl h) h3 h4 h5 counted =
    let d = value.object (value_if (codes "count") (Some i) (value.member (codes "header") (header_value revision) (array_value (codes "kvs") None (flag_value (codes "more") true value.no_members)))) in
    record {
      spelled = part_json (codes "response_range") revision (range_members None true (Some i));
      value = value.object (value.member (codes "response_range") d value.no_members);
      reads = refl;
      gives = rw (count_in-if field.Count d (Some i) n refl counted, h.1) refl;
      numbers = (((tt, tt), (tt, (tt, tt))), tt);
      shallow = omega arith;
      prints = range_prints b0 b1 b2 b3 b4 b5 rest revision None true (Some i) h0 h1 (λ ms more e. h.0 ∙ e) h3 h4 h5;
    }
range_spelled b0 b1 b2 b3 b4 b5 rest revision kvs false None n h0 h1 (inl h) h3 h4 h5 counted =
    let d = value.object (value_if (codes "count") None (value.member (codes "header") (header_value revision) (array_value (codes "kvs") None (flag_value (codes "more") false value.no_members)))) in
    record {
      spelled = part_json (codes "response_range") revision (range_members None false None);
      value = value.object (value.member (codes "response_range") d value.no_members);
      reads = refl;
      gives = rw (count_in-if field.Count d None n refl counted, h.1) refl;
      numbers = (((tt, tt), tt), tt);
      shallow = omega arith;
      prints = range_prints b0 b1 b2 b3 b4 b5 rest revision None false None h0 h1 (λ ms more e. h.0 ∙ e) h3 h4 h5;
    }
range_spelled b0 b1 b2 b3 b4 b5 rest revision kvs false (Some i) n h0 h1 (inl h) h3 h4 h5 counted =
    let d = value.object (value_if (codes "count") (Some i) (value.member (codes "header") (header_value revision) (array_value (codes "kvs") None (flag_value (codes "more") false value.no_members)))) in
    record {
      spelled = part_json (codes "response_range") revision (range_members None false (Some i));
      value = value.object (value.member (codes "response_range") d value.no_members);
      reads = refl;
      gives = rw (count_in-if field.Count d (Some i) n refl counted, h.1) refl;
      numbers = (((tt, tt), (tt, tt)), tt);
      shallow = omega arith;
      prints = range_prints b0 b1 b2 b3 b4 b5 rest revision None false (Some i) h0 h1 (λ ms more e. h.0 ∙ e) h3 h4 h5;
    }
range_spelled b0 b1 b2 b3 b4 b5 rest revision kvs true None n h0 h1 (inr h) h3 h4 h5 counted =
    let d = value.object (value_if (codes "count") None (value.member (codes "header") (header_value revision) (array_value (codes "kvs") (Some h.2.value) (flag_value (codes "more") true value.no_members)))) in
    record {
      spelled = part_json (codes "response_range") revision (range_members (Some h.2.spelled) true None);
      value = value.object (value.member (codes "response_range") d value.no_members);
      reads = rw h.2.reads refl;
      gives = rw (count_in-if field.Count d None n refl counted, h.2.gives) refl;
      numbers = (((tt, tt), (h.2.numbers, (tt, tt))), tt);
      shallow = omega (arith, h.2.shallow);
      prints = range_prints b0 b1 b2 b3 b4 b5 rest revision (Some h.2.spelled) true None h0 h1 (λ ms more e. array_then (codes "kvs") b2 h.0 b3 h.2.spelled ms more refl h.1 h.2.prints e) h3 h4 h5;
    }
range_spelled b0 b1 b2 b3 b4 b5 rest revision kvs true (Some i) n h0 h1 (inr h) h3 h4 h5 counted =
    let d = value.object (value_if (codes "count") (Some i) (value.member (codes "header") (header_value revision) (array_value (codes "kvs") (Some h.2.value) (flag_value (codes "more") true value.no_members)))) in
    record {
      spelled = part_json (codes "response_range") revision (range_members (Some h.2.spelled) true (Some i));
      value = value.object (value.member (codes "response_range") d value.no_members);
      reads = rw h.2.reads refl;
      gives = rw (count_in-if field.Count d (Some i) n refl counted, h.2.gives) refl;
      numbers = (((tt, tt), (h.2.numbers, (tt, (tt, tt)))), tt);
      shallow = omega (arith, h.2.shallow);
      prints = range_prints b0 b1 b2 b3 b4 b5 rest revision (Some h.2.spelled) true (Some i) h0 h1 (λ ms more e. array_then (codes "kvs") b2 h.0 b3 h.2.spelled ms more refl h.1 h.2.prints e) h3 h4 h5;
    }
range_spelled b0 b1 b2 b3 b4 b5 rest revision kvs false None n h0 h1 (inr h) h3 h4 h5 counted =
    let d = value.object (value_if (codes "count") None (value.member (codes "header") (header_value revision) (array_value (codes "kvs") (Some h.2.value) (flag_value (codes "more") false value.no_members)))) in
    record {
      spelled = part_json (codes "response_range") revision (range_members (Some h.2.spelled) false None);
      value = value.object (value.member (codes "response_range") d value.no_members);
      reads = rw h.2.reads refl;
      gives = rw (count_in-if field.Count d None n refl counted, h.2.gives) refl;
      numbers = (((tt, tt), (h.2.numbers, tt)), tt);
      shallow = omega (arith, h.2.shallow);
      prints = range_prints b0 b1 b2 b3 b4 b5 rest revision (Some h.2.spelled) false None h0 h1 (λ ms more e. array_then (codes "kvs") b2 h.0 b3 h.2.spelled ms more refl h.1 h.2.prints e) h3 h4 h5;
    }
range_spelled b0 b1 b2 b3 b4 b5 rest revision kvs false (Some i) n h0 h1 (inr h) h3 h4 h5 counted =
    let d = value.object (value_if (codes "count") (Some i) (value.member (codes "header") (header_value revision) (array_value (codes "kvs") (Some h.2.value) (flag_value (codes "more") false value.no_members)))) in
    record {
      spelled = part_json (codes "response_range") revision (range_members (Some h.2.spelled) false (Some i));
      value = value.object (value.member (codes "response_range") d value.no_members);
      reads = rw h.2.reads refl;
      gives = rw (count_in-if field.Count d (Some i) n refl counted, h.2.gives) refl;
      numbers = (((tt, tt), (h.2.numbers, (tt, tt))), tt);
      shallow = omega (arith, h.2.shallow);
      prints = range_prints b0 b1 b2 b3 b4 b5 rest revision (Some h.2.spelled) false (Some i) h0 h1 (λ ms more e. array_then (codes "kvs") b2 h.0 b3 h.2.spelled ms more refl h.1 h.2.prints e) h3 h4 h5;
    }

-- ---- the answer to a transaction

abbrev txn_front : List ℕ
txn_front = 123 ∷ (name_text (codes "header") ++ 123 ∷ name_text (codes "cluster_id"))

abbrev pub txn_text : List ℕ
txn_text = txn_front ++ 34 ∷ []

abbrev txn_json : List ℕ → List ℕ → List ℕ → List ℕ → Members → Json
txn_json cluster who revision term ms =
    object (member (codes "header") (object (member (codes "cluster_id") (string cluster) (member (codes "member_id") (string who) (member (codes "revision") (string revision) (member (codes "raft_term") (string term) no_members))))) ms)

abbrev whole_header : List ℕ → List ℕ → List ℕ → List ℕ → Data
whole_header cluster who revision term =
    value.object (value.member (codes "cluster_id") (value.string cluster) (value.member (codes "member_id") (value.string who) (value.member (codes "raft_term") (value.string term) (value.member (codes "revision") (value.string revision) value.no_members))))

txn_prints : (b0 b1 b2 b3 b4 b5 rest cluster who revision term : List ℕ) (ms : Members) → IsContent txn_text b0 cluster b1 → IsContent (later_text (codes "member_id")) b1 who b2
    → IsContent (later_text (codes "revision")) b2 revision b3 → IsContent (later_text (codes "raft_term")) b3 term b4 → b4 ≡ 125 ∷ b5
    → ((more : List Token) → rest ≡ print_from true more → b5 ≡ print_from true (members_tokens ms ++ more)) → Prints false (json_tokens (txn_json cluster who revision term ms)) b0 true rest
unfolding print_from escape_byte
txn_prints b0 b1 b2 b3 b4 b5 rest cluster who revision term ms h0 h1 h2 h3 h4 inner more e =
    let after : List Token = members_tokens ms ++ more in
    let e4 = closes b4 b5 after h4 (inner more e) in
    let e3 = member_then (codes "raft_term") term b3 b4 no_members after refl h3 e4 in
    let e2 = member_then (codes "revision") revision b2 b3 (member (codes "raft_term") (string term) no_members) after refl h2 e3 in
    let m1 : Members = member (codes "revision") (string revision) (member (codes "raft_term") (string term) no_members) in
    let e1 = member_then (codes "member_id") who b1 b2 m1 after refl h1 e2 in
    string_then txn_front cluster b0 b1 (members_tokens (member (codes "member_id") (string who) m1) ++ after) h0 e1

pub txn_spelled : (t : TxnReq) (b0 b1 b2 b3 b4 b5 b6 b7 rest cluster who revision term : List ℕ) (succeeded outcome : Bool) (parts : List ActAns) (n : ℤ) → IsContent txn_text b0 cluster b1
    → IsContent (later_text (codes "member_id")) b1 who b2 → IsContent (later_text (codes "revision")) b2 revision b3 → IsContent (later_text (codes "raft_term")) b3 term b4 → b4 ≡ 125 ∷ b5
    → IsFlagged (flag_text (codes "succeeded")) b5 succeeded b6 → AreSpelledIf (parts_in (cond succeeded t.success t.failure)) 5 (array_text (codes "responses")) b6 parts b7 → b7 ≡ 125 ∷ rest
    → held t.guards succeeded ≡ Ok outcome → count_of (value.string revision) ≡ Some n → IsSpelled (txn_answer_in t) 127 b0 (answer.Txn n outcome parts) rest
unfolding txn_answer_in revision_in message_in flag_in items_in member_of snake camel
txn_spelled t b0 b1 b2 b3 b4 b5 b6 b7 rest cluster who revision term true outcome parts n h0 h1 h2 h3 h4 h5 (inl h) h7 kept counted =
    let header = whole_header cluster who revision term in
    let ms : Members = array_if (codes "responses") None no_members in
    record {
      spelled = txn_json cluster who revision term (flag_if (codes "succeeded") true ms);
      value = value.object (value.member (codes "header") header (array_value (codes "responses") None (flag_value (codes "succeeded") true value.no_members)));
      reads = refl;
      gives = rw (needed_count-of field.Revision header revision n refl counted, h.1, kept) refl;
      numbers = ((tt, (tt, (tt, (tt, tt)))), (tt, tt));
      shallow = omega arith;
      prints = txn_prints b0 b1 b2 b3 b4 b5 rest cluster who revision term (flag_if (codes "succeeded") true ms) h0 h1 h2 h3 h4
          (λ more e. flag_if_then (codes "succeeded") b5 true b6 ms more refl h5 (h.0 ∙ closes b7 rest more h7 e));
    }
txn_spelled t b0 b1 b2 b3 b4 b5 b6 b7 rest cluster who revision term true outcome parts n h0 h1 h2 h3 h4 h5 (inr h) h7 kept counted =
    let header = whole_header cluster who revision term in
    let ms : Members = array_if (codes "responses") (Some h.2.spelled) no_members in
    record {
      spelled = txn_json cluster who revision term (flag_if (codes "succeeded") true ms);
      value = value.object (value.member (codes "header") header (array_value (codes "responses") (Some h.2.value) (flag_value (codes "succeeded") true value.no_members)));
      reads = rw h.2.reads refl;
      gives = rw (needed_count-of field.Revision header revision n refl counted, h.2.gives, kept) refl;
      numbers = ((tt, (tt, (tt, (tt, tt)))), (tt, (h.2.numbers, tt)));
      shallow = omega (arith, h.2.shallow);
      prints = txn_prints b0 b1 b2 b3 b4 b5 rest cluster who revision term (flag_if (codes "succeeded") true ms) h0 h1 h2 h3 h4
          (λ more e. flag_if_then (codes "succeeded") b5 true b6 ms more refl h5 (array_then (codes "responses") b6 h.0 b7 h.2.spelled no_members more refl h.1 h.2.prints (closes b7 rest more h7 e)));
    }
txn_spelled t b0 b1 b2 b3 b4 b5 b6 b7 rest cluster who revision term false outcome parts n h0 h1 h2 h3 h4 h5 (inl h) h7 kept counted =
    let header = whole_header cluster who revision term in
    let ms : Members = array_if (codes "responses") None no_members in
    record {
      spelled = txn_json cluster who revision term (flag_if (codes "succeeded") false ms);
      value = value.object (value.member (codes "header") header (array_value (codes "responses") None (flag_value (codes "succeeded") false value.no_members)));
      reads = refl;
      gives = rw (needed_count-of field.Revision header revision n refl counted, h.1, kept) refl;
      numbers = ((tt, (tt, (tt, (tt, tt)))), tt);
      shallow = omega arith;
      prints = txn_prints b0 b1 b2 b3 b4 b5 rest cluster who revision term (flag_if (codes "succeeded") false ms) h0 h1 h2 h3 h4
          (λ more e. flag_if_then (codes "succeeded") b5 false b6 ms more refl h5 (h.0 ∙ closes b7 rest more h7 e));
    }
txn_spelled t b0 b1 b2 b3 b4 b5 b6 b7 rest cluster who revision term false outcome parts n h0 h1 h2 h3 h4 h5 (inr h) h7 kept counted =
    let header = whole_header cluster who revision term in
    let ms : Members = array_if (codes "responses") (Some h.2.spelled) no_members in
    record {
      spelled = txn_json cluster who revision term (flag_if (codes "succeeded") false ms);
      value = value.object (value.member (codes "header") header (array_value (codes "responses") (Some h.2.value) (flag_value (codes "succeeded") false value.no_members)));
      reads = rw h.2.reads refl;
      gives = rw (needed_count-of field.Revision header revision n refl counted, h.2.gives, kept) refl;
      numbers = ((tt, (tt, (tt, (tt, tt)))), (h.2.numbers, tt));
      shallow = omega (arith, h.2.shallow);
      prints = txn_prints b0 b1 b2 b3 b4 b5 rest cluster who revision term (flag_if (codes "succeeded") false ms) h0 h1 h2 h3 h4
          (λ more e. flag_if_then (codes "succeeded") b5 false b6 ms more refl h5 (array_then (codes "responses") b6 h.0 b7 h.2.spelled no_members more refl h.1 h.2.prints (closes b7 rest more h7 e)));
    }

-- ---- bodies

pub reads-spelled : (t : TxnReq) (body : List ℕ) (a : Answer) → IsUtf8 body → IsSpelled (txn_answer_in t) 127 body a [] → reads (ask.Txn t) body a
unfolding ReadsAs message_body answer_in print_from
reads-spelled t body a utf8 h =
    let same : body ≡ print (json_tokens h.spelled) = h.prints [] refl ∙ ap print (append-nil (json_tokens h.spelled)) in
    (utf8, h.value, ap read same ∙ read-print h.spelled h.value h.numbers h.shallow h.reads, h.gives)

pub reads-by : (asked : Ask) (t : TxnReq) (body : List ℕ) (a : Answer) → asked ≡ ask.Txn t → IsUtf8 body → IsSpelled (txn_answer_in t) 127 body a [] → reads asked body a
reads-by asked t body a e utf8 h = rw e (reads-spelled t body a utf8 h)

pub ruleset straight = (reads-by)
