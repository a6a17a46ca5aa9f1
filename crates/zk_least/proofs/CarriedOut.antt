-- In a legal history a request that was carried out is not one that is answered without the tree.
use Rattle.std.proofs.Common.{◌≡◌, ℕ, List, length, take, drop, take-append-drop, refl, sym, ap, ◌∙◌, subst, arith, Bool, true, false, ℤ}
use Rattle.std.specs.Prelude.{Option, Some, None, ◌&&◌, is_some, option_and_then, nat_le, nat_lt, ◌==◌, if◌then◌else◌}
use Rattle.std.proofs.lemmas.Bool.{and_parts}
use Rattle.std.proofs.lemmas.Bool.Decides.{nat_tests}
use Rattle.zk_model.specs.declared.node.Stat.{Stat}
use Rattle.zk_model.specs.declared.request.Part.{Part}
use Rattle.zk_model.specs.declared.request.Part.TheVariants as part
use Rattle.zk_model.specs.declared.request.Request.{Request}
use Rattle.zk_model.specs.declared.request.Request.TheVariants as req
use Rattle.zk_model.specs.Limits.{max_parts}
use Rattle.zk_model.specs.Znodes.{Tree}
use Rattle.zk_model.specs.Single.{Outcome, single, form_refusal, effect, unless_refused}
use Rattle.zk_model.specs.Watches.{Watches, no_watches}
use Rattle.zk_jute.specs.Requests.{Frame, NoHeader, Unreadable, Unknown, Asks, read_request}
use Rattle.zk_service.specs.declared.update.UpdateRec.{UpdateRec}
use Rattle.zk_service.specs.declared.update.UpdateKind.{UpdateKind}
use Rattle.zk_service.specs.declared.update.UpdateKind.TheVariants.{Begin, Session as NewSession, Attach, Asked, Closed, Reaped}
use Rattle.zk_transcript.specs.declared.transcript.TranscriptLine.{TranscriptLine}
use Rattle.zk_transcript.specs.declared.transcript.TranscriptLine.TheVariants.{Update, Open, Frame as FrameLine, Send, Lapse, Close}
use Rattle.zk_service.specs.Answers.{Told, plain_reply, plain_request, told_refusal}
use Rattle.zk_service.specs.States.{State, Session, commit, commit_single, commit_with_stat, made_stat, attached_session, limit_of}
use Rattle.zk_transcript.specs.History.{state_at, asked_in, frame_shown, frame, request, asked_commit}
use Rattle.zk_transcript.specs.Legal.{is_legal, is_legal_line, is_next_zxid, may_update, is_close, is_within_parts}
use Rattle.zk_transcript.specs.Walks.{own_update_in, own_update_shown, placed_frame}
use Rattle.zk_transcript.proofs.Appending.{first_place-push}
use Rattle.zk_transcript.proofs.Placed.{is_legal-at, first_place-shown}
use Rattle.zk_least.proofs.FirstPlaces.{first_place-at}
use Rattle.zk_least.proofs.Ahead.{CarriedByTree}

-- ---- what is carried out is not refused without the tree

formed : (t : Tree) (limit : ℕ) (session : ℤ) (p : Part) (z : ℤ) (now : ℕ) (w : Watches) → is_some (commit_single (single t limit session p z now)) ≡ true → told_refusal w (form_refusal p) ≡ None
unfolding single
formed t limit session p z now w h = by (form_refusal p) (effect t limit session p z now) h
  where
    by : (o : Option ℤ) (e : Outcome) → is_some (commit_single (unless_refused o e)) ≡ true → told_refusal w o ≡ None
    by None e h = refl
    by (Some code) e h = absurd (cc)

formed-with-stat : (t : Tree) (limit : ℕ) (session : ℤ) (p : Part) (z : ℤ) (now : ℕ) (x : Stat) (w : Watches) → is_some (commit_with_stat x (single t limit session p z now)) ≡ true → told_refusal w (form_refusal p) ≡ None
unfolding single
formed-with-stat t limit session p z now x w h = by (form_refusal p) (effect t limit session p z now) h
  where
    by : (o : Option ℤ) (e : Outcome) → is_some (commit_with_stat x (unless_refused o e)) ≡ true → told_refusal w o ≡ None
    by None e h = refl
    by (Some code) e h = absurd (cc)

few-parts : (n : ℕ) (o : Option Told) → nat_le n max_parts ≡ true → (if nat_lt max_parts n then o else None) ≡ None
few-parts n o h = by (nat_lt max_parts n) refl
  where
    by : (b : Bool) → nat_lt max_parts n ≡ b → (if b then o else None) ≡ None
    by false e = refl
    by true e = absurd (bad e)
      where
        bad : nat_lt max_parts n ≡ true → ⊥
        bad e = grind (arith, nat_tests)

committed-plain : (t : Tree) (limit : ℕ) (session : ℤ) (r : Request) (z : ℤ) (now : ℕ) → is_some (commit t limit session r z now) ≡ true → is_within_parts (Some r) ≡ true → plain_request no_watches r ≡ None
unfolding commit plain_request
committed-plain t limit session (req.Create p d a f) z now h w = formed t limit session (part.Create p d a f) z now no_watches h
committed-plain t limit session (req.Delete p v) z now h w = formed t limit session (part.Delete p v) z now no_watches h
committed-plain t limit session (req.SetData p d v) z now h w = formed t limit session (part.SetData p d v) z now no_watches h
committed-plain t limit session (req.Multi parts) z now h w = few-parts (length parts) _ w
committed-plain t limit session (req.Exists p b) z now h w = absurd (cc)
committed-plain t limit session (req.GetData p b) z now h w = absurd (cc)
committed-plain t limit session (req.GetAcl p) z now h w = absurd (cc)
committed-plain t limit session (req.GetChildren p b) z now h w = absurd (cc)
committed-plain t limit session (req.GetChildren2 p b) z now h w = absurd (cc)
committed-plain t limit session (req.Sync p) z now h w = absurd (cc)
committed-plain t limit session req.Ping z now h w = absurd (cc)
committed-plain t limit session (req.Check p v) z now h w = absurd (cc)
committed-plain t limit session (req.Auth k s a) z now h w = absurd (cc)
committed-plain t limit session (req.SetWatches s e d c) z now h w = absurd (cc)
committed-plain t limit session req.Close z now h w = absurd (cc)
committed-plain t limit session (req.Create2 p d a f) z now h w = formed-with-stat t limit session (part.Create p d a f) z now (made_stat f d session z now) no_watches h
committed-plain t limit session (req.CheckWatches p k) z now h w = absurd (cc)
committed-plain t limit session (req.RemoveWatches p k) z now h w = absurd (cc)

-- the request of a frame is not one that is answered without the tree
record ByTree (before : List TranscriptLine) (c i : ℕ) : Type 0 where
  pub asked : Request
  pub there : request c i before ≡ Some asked
  pub plain : plain_request no_watches asked ≡ None

asked-plain : (before : List TranscriptLine) (s : State) (z : ℤ) (c i now : ℕ) → is_some (asked_commit before s z c i now) ≡ true → is_within_parts (request c i before) ≡ true → ByTree before c i
asked-plain before s z c i now h w = by (attached_session c s) (request c i before) refl h w
  where
    by : (o : Option (ℤ × Session)) (q : Option Request) → request c i before ≡ q → is_some (elim o [ None ↦ None | Some e ↦ elim q [ None ↦ None | Some r ↦ commit s.tree (limit_of e.1) e.0 r z now ] ]) ≡ true
        → is_within_parts q ≡ true → ByTree before c i
    by None q at h w = absurd (cc)
    by (Some e) None at h w = absurd (cc)
    by (Some e) (Some r) at h w = record { asked = r; there = at; plain = committed-plain s.tree (limit_of e.1) e.0 r z now h w }

close-plain : (o : Option Request) → is_close o ≡ true → o ≡ Some req.Close
close-plain None h = absurd (cc)
close-plain (Some req.Close) h = refl
close-plain (Some (req.Create p d a f)) h = absurd (cc)
close-plain (Some (req.Delete p v)) h = absurd (cc)
close-plain (Some (req.SetData p d v)) h = absurd (cc)
close-plain (Some (req.Multi parts)) h = absurd (cc)
close-plain (Some (req.Exists p b)) h = absurd (cc)
close-plain (Some (req.GetData p b)) h = absurd (cc)
close-plain (Some (req.GetAcl p)) h = absurd (cc)
close-plain (Some (req.GetChildren p b)) h = absurd (cc)
close-plain (Some (req.GetChildren2 p b)) h = absurd (cc)
close-plain (Some (req.Sync p)) h = absurd (cc)
close-plain (Some req.Ping) h = absurd (cc)
close-plain (Some (req.Check p v)) h = absurd (cc)
close-plain (Some (req.Auth k s a)) h = absurd (cc)
close-plain (Some (req.SetWatches s e d c)) h = absurd (cc)
close-plain (Some (req.Create2 p d a f)) h = absurd (cc)
close-plain (Some (req.CheckWatches p k)) h = absurd (cc)
close-plain (Some (req.RemoveWatches p k)) h = absurd (cc)

closed-plain : (before : List TranscriptLine) (c i : ℕ) → is_close (request c i before) ≡ true → ByTree before c i
unfolding plain_request
closed-plain before c i h = record { asked = req.Close; there = close-plain (request c i before) h; plain = refl }

-- ---- the frame before the line is the frame of the transcript

asks-of : (x : Frame) (r : Request) → asked_in x ≡ Some r → plain_reply no_watches x ≡ plain_request no_watches r
asks-of NoHeader r h = absurd (cc)
asks-of (Unreadable xid place) r h = absurd (cc)
asks-of (Unknown xid kind) r h = absurd (cc)
asks-of (Asks xid q) r h = (let s : q ≡ r = cc in ap (plain_request no_watches) s)

request-frame : (o : Option (List ℕ)) (r : Request) → option_and_then (λ bytes. asked_in (read_request bytes)) o ≡ Some r → (bytes : List ℕ) × (o ≡ Some bytes) × (asked_in (read_request bytes) ≡ Some r)
request-frame None r h = absurd (cc)
request-frame (Some bytes) r h = (bytes, refl, h)

frame-plain : (lines : List TranscriptLine) (c i m k : ℕ) (bytes : List ℕ) → ByTree (take m lines) c i → placed_frame c i lines ≡ Some (k, bytes) → plain_reply no_watches (read_request bytes) ≡ None
frame-plain lines c i m k bytes t f =
    let q = request-frame (frame c i (take m lines)) t.asked t.there in
    let j = first_place-shown (frame_shown c i) 0 (take m lines) q.0 q.1 in
    let whole : placed_frame c i lines ≡ Some (j.0, q.0) = ap (placed_frame c i) (sym (take-append-drop m lines)) ∙ first_place-push (frame_shown c i) 0 (take m lines) (drop m lines) (j.0, q.0) j.1 in
    let both : ◌≡◌ {A = Option (ℕ × List ℕ)} (Some (j.0, q.0)) (Some (k, bytes)) = sym whole ∙ f in
    let pair : ◌≡◌ {A = ℕ × List ℕ} (j.0, q.0) (k, bytes) = cc in
    ap (λ b. plain_reply no_watches (read_request b)) (sym (ap (λ (x : ℕ × List ℕ). x.1) pair)) ∙ asks-of (read_request q.0) t.asked q.2 ∙ t.plain

-- ---- the line

both-same : (c d i j : ℕ) (u v : UpdateRec) → (if (c == d) && (i == j) then Some u else None) ≡ Some v → (d ≡ c) × (j ≡ i)
both-same c d i j u v h = by (c == d) (i == j) refl refl h
  where
    by : (a b : Bool) → (c == d) ≡ a → (i == j) ≡ b → (if a && b then Some u else None) ≡ Some v → (d ≡ c) × (j ≡ i)
    by true true e f t = (grind (arith, nat_tests), grind (arith, nat_tests))
    by true false e f t = absurd (cc)
    by false b e f t = absurd (cc)

kind-plain : (before : List TranscriptLine) (s : State) (c i : ℕ) (u v : UpdateRec) (kind : UpdateKind) → own_update_in c i u kind ≡ Some v → may_update before s u.zxid kind ≡ true → ByTree before c i
unfolding may_update
kind-plain before s c i u v (Begin now) h m = absurd (cc)
kind-plain before s c i u v (NewSession id d) h m = absurd (cc)
kind-plain before s c i u v (Attach id d) h m = absurd (cc)
kind-plain before s c i u v (Reaped id) h m = absurd (cc)
kind-plain before s c i u v (Asked d j now) h m =
    let same = both-same c d i j u v h in
    let q = and_parts _ (is_some (asked_commit before s u.zxid d j now)) m in
    let w = and_parts _ (is_within_parts (request d j before)) q.0 in
    subst (λ n. ByTree before n i) same.0 (subst (λ n. ByTree before d n) same.1 (asked-plain before s u.zxid d j now q.1 w.1))
kind-plain before s c i u v (Closed id d j) h m =
    let same = both-same c d i j u v h in
    let q = and_parts _ (is_close (request d j before)) m in
    subst (λ n. ByTree before n i) same.0 (subst (λ n. ByTree before d n) same.1 (closed-plain before d j q.1))

line-plain : (before : List TranscriptLine) (s : State) (c i : ℕ) (l : TranscriptLine) (v : UpdateRec) → own_update_shown c i l ≡ Some v → is_legal_line before s l ≡ true → ByTree before c i
line-plain before s c i (Update u) v h m = kind-plain before s c i u v u.kind h (and_parts (may_update before s u.zxid u.kind) (is_next_zxid s u.zxid) m).0
line-plain before s c i (Open a b d e layout) v h m = absurd (cc)
line-plain before s c i (FrameLine a b d e) v h m = absurd (cc)
line-plain before s c i (Send a b) v h m = absurd (cc)
line-plain before s c i (Lapse a b) v h m = absurd (cc)
line-plain before s c i (Close a b) v h m = absurd (cc)

pub carried-by-tree : (lines : List TranscriptLine) (c : ℕ) → is_legal lines ≡ true → CarriedByTree lines c
carried-by-tree lines c legal i k u bytes h f =
    let a = first_place-at (own_update_shown c i) 0 lines u h in
    frame-plain lines c i a.place k bytes (line-plain (take a.place lines) (state_at lines a.place) c i a.line u.1 a.shown (is_legal-at lines a.place a.line legal a.there)) f
