-- What a server sends beside replies: a notification and the answer to a connect spell what they say, and nothing else.
use Rattle.std.proofs.Common.{◌≡◌, ℕ, Bool, Option, None, Some, List, [], ◌∷◌, ◌++◌, length, map, zero, suc, Ok, refl, sym, ap, ◌∙◌, append_assoc, ℤ, pos}
use Rattle.std.proofs.lemmas.List.{append-nil}
use Rattle.zk_model.specs.declared.connect.ConnectResponse.{ConnectResponse}
use Rattle.zk_model.specs.declared.reply.Notice.{Notice}
use Rattle.zk_jute.specs.Connects.{optional, connect_response_values}
use Rattle.zk_jute.specs.Grammar.{IsReadOnly, IsConnectResponse, IsNotice}
use Rattle.zk_jute.specs.JuteReading.{values_at}
use Rattle.zk_jute.specs.JuteValues.{Value, int, long, buffer, kind_of, Spelled, Spells}
use Rattle.zk_jute.specs.JuteWriting.{AreValues}
use Rattle.zk_jute.specs.Packets.{notice_values, notice_bytes, NoticeCanBeSent, connect_bytes}
use Rattle.zk_jute.proofs.JuteCanonical.{values_canonical}
use Rattle.zk_jute.proofs.JuteFields.{ok_is, values_again}
use Rattle.zk_jute.proofs.Lengths.{written_can, connect_short}

-- ---- notifications

-- values spelled one by one are a notification in the order of its fields, and the other way round
notice_of : (n : Notice) (frame : List ℕ) → Spelled Spells (notice_values n) frame → IsNotice n frame
notice_of n frame is =
    let xid = is.0 in
    let zxid = is.3.0 in
    let err = is.3.3.0 in
    let type = is.3.3.3.0 in
    let state = is.3.3.3.3.0 in
    let path = is.3.3.3.3.3.0 in
    let whole : frame ≡ xid ++ (zxid ++ (err ++ (type ++ (state ++ (path ++ []))))) =
    is.4 ∙ ap (λ (z : List ℕ). xid ++ z)
    (is.3.4 ∙ ap (λ (z : List ℕ). zxid ++ z)
    (is.3.3.4 ∙ ap (λ (z : List ℕ). err ++ z)
    (is.3.3.3.4 ∙ ap (λ (z : List ℕ). type ++ z) (is.3.3.3.3.4 ∙ ap (λ (z : List ℕ). state ++ z) (is.3.3.3.3.3.4 ∙ ap (λ (z : List ℕ). path ++ z) is.3.3.3.3.3.3))))) in
    let grouped : xid ++ (zxid ++ (err ++ (type ++ (state ++ (path ++ []))))) ≡ (xid ++ zxid ++ err) ++ (type ++ state ++ path) = simp (append_assoc, append-nil) in
    (xid ++ zxid ++ err, type ++ state ++ path, (xid, zxid, err, is.2, is.3.2, is.3.3.2, refl), (type, state, path, is.3.3.3.2, is.3.3.3.3.2, is.3.3.3.3.3.2, refl), whole ∙ grouped)

values_of_notice : (n : Notice) (frame : List ℕ) → IsNotice n frame → Spelled Spells (notice_values n) frame
values_of_notice n frame is =
    let h = is.2 in
    let e = is.3 in
    let last : List ℕ = e.2 in
    let from_state : List ℕ = e.1 ++ last in
    let from_type : List ℕ = e.0 ++ from_state in
    let from_err : List ℕ = h.2 ++ from_type in
    let from_zxid : List ℕ = h.1 ++ from_err in
    let whole : frame ≡ h.0 ++ from_zxid = is.4 ∙ ap (λ (z : List ℕ). z ++ is.1) h.6 ∙ ap (λ (z : List ℕ). (h.0 ++ h.1 ++ h.2) ++ z) e.6 ∙ simp append_assoc in
    (h.0, from_zxid, h.3, (h.1, from_err, h.4, (h.2, from_type, h.5, (e.0, from_state, e.3, (e.1, last, e.4, (last, [], e.5, refl, sym (append-nil last)), refl), refl), refl), refl), whole)

pub notice_spelled : (n : Notice) → NoticeCanBeSent n → AreValues (notice_values n) → IsNotice n (notice_bytes n)
notice_spelled n fits good = notice_of n (notice_bytes n) (values_canonical (notice_values n) (written_can (notice_values n) fits) good)

notice_is : (n m : Notice) → notice_values n ≡ notice_values m → n ≡ m
notice_is n m e =
    let kind : n.kind ≡ m.kind = cc in
    let path : n.path ≡ m.path = cc in
    let made : ℤ → List ℕ → Notice = λ k p. record { kind = k; path = p } in
    ap (λ (k : ℤ). made k n.path) kind ∙ ap (λ (p : List ℕ). made m.kind p) path

pub one_notice : (frame : List ℕ) (n m : Notice) → IsNotice n frame → IsNotice m frame → n ≡ m
one_notice frame n m is also =
    let a = values_again (notice_values n) frame [] (values_of_notice n frame is) in
    let b = values_again (notice_values m) frame [] (values_of_notice m frame also) in
    let same : (notice_values n, []) ≡ (notice_values m, []) = ok_is (notice_values n, []) (notice_values m, []) (sym a ∙ b) in
    notice_is n m (ap (λ (x : List Value × List ℕ). x.0) same)

-- ---- answers to connects

abbrev four : ConnectResponse → List Value
four r = int (pos 0) ∷ int r.timeout ∷ long r.session ∷ buffer r.passwd ∷ []

flag_of : (flag : Option Bool) (bytes : List ℕ) → Spelled Spells (optional flag) bytes → IsReadOnly flag bytes
flag_of None bytes is = is
flag_of (Some b) bytes is = rw (is.4, is.3, append-nil is.0) is.2

one_flag : (a b : Option Bool) (bytes : List ℕ) → IsReadOnly a bytes → IsReadOnly b bytes → a ≡ b
one_flag None None bytes is also = refl
one_flag None (Some b) [] is also = absurd also
one_flag None (Some b) (c ∷ bytes) is also = absurd cc
one_flag (Some a) None [] is also = absurd is
one_flag (Some a) None (c ∷ bytes) is also = absurd cc
one_flag (Some a) (Some b) [] is also = absurd is
one_flag (Some a) (Some b) (zero ∷ []) is also = ap (λ (x : Bool). Some x) (is ∙ sym also)
one_flag (Some a) (Some b) (suc c ∷ []) is also = ap (λ (x : Bool). Some x) (is ∙ sym also)
one_flag (Some a) (Some b) (c ∷ d ∷ bytes) is also = absurd is

pub connect_response_spelled : (r : ConnectResponse) → length r.passwd ≡ 16 → AreValues (connect_response_values r) → IsConnectResponse r (connect_bytes r)
connect_response_spelled r sixteen good =
    let is = values_canonical (connect_response_values r) (written_can (connect_response_values r) (connect_short r sixteen)) good in
    let flag : List ℕ = is.3.3.3.1 in
    let whole : connect_bytes r ≡ is.0 ++ (is.3.0 ++ (is.3.3.0 ++ (is.3.3.3.0 ++ flag))) =
    is.4 ∙ ap (λ (z : List ℕ). is.0 ++ z) (is.3.4 ∙ ap (λ (z : List ℕ). is.3.0 ++ z) (is.3.3.4 ∙ ap (λ (z : List ℕ). is.3.3.0 ++ z) is.3.3.3.4)) in
    (is.0, is.3.0, is.3.3.0, is.3.3.3.0, flag, is.2, is.3.2, is.3.3.2, is.3.3.3.2, sixteen, flag_of r.read_only flag is.3.3.3.3, whole ∙ simp append_assoc)

fields_again : (r : ConnectResponse) (frame : List ℕ) → (is : IsConnectResponse r frame) → values_at (map kind_of (four r)) frame ≡ Ok (four r, is.4)
fields_again r frame is =
    let front : List ℕ = is.0 ++ (is.1 ++ (is.2 ++ is.3)) in
    let spelled : Spelled Spells (four r) front = (is.0, is.1 ++ (is.2 ++ is.3), is.5, (is.1, is.2 ++ is.3, is.6, (is.2, is.3, is.7, (is.3, [], is.8, refl, sym (append-nil is.3)), refl), refl), refl) in
    let grouped : frame ≡ front ++ is.4 = is.11 ∙ simp append_assoc in
    ap (values_at (map kind_of (four r))) grouped ∙ values_again (four r) front is.4 spelled

abbrev made : ℤ → ℤ → List ℕ → Option Bool → ConnectResponse
made timeout session passwd read_only = record { timeout = timeout; session = session; passwd = passwd; read_only = read_only }

response_is : (r q : ConnectResponse) → four r ≡ four q → r.read_only ≡ q.read_only → r ≡ q
response_is r q e flags =
    let timeouts : r.timeout ≡ q.timeout = cc in
    let sessions : r.session ≡ q.session = cc in
    let passwds : r.passwd ≡ q.passwd = cc in
    ap (λ (t : ℤ). made t r.session r.passwd r.read_only) timeouts ∙ ap (λ (s : ℤ). made q.timeout s r.passwd r.read_only) sessions
    ∙ ap (λ (p : List ℕ). made q.timeout q.session p r.read_only) passwds ∙ ap (λ (f : Option Bool). made q.timeout q.session q.passwd f) flags

pub one_connect_response : (frame : List ℕ) (r q : ConnectResponse) → IsConnectResponse r frame → IsConnectResponse q frame → r ≡ q
one_connect_response frame r q is also =
    let same : (four r, is.4) ≡ (four q, also.4) = ok_is (four r, is.4) (four q, also.4) (sym (fields_again r frame is) ∙ fields_again q frame also) in
    let rest : is.4 ≡ also.4 = ap (λ (x : List Value × List ℕ). x.1) same in
    response_is r q (ap (λ (x : List Value × List ℕ). x.0) same) (one_flag r.read_only q.read_only also.4 (rw (← rest) is.10) also.10)
