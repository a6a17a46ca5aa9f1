-- Conversations by the answer to their connect and by the walk after it.
use Rattle.std.proofs.Common.{◌≡◌, ℕ, ℤ, pos, ◌+◌, ◌<◌, ◌≤◌, Bool, true, false, List, [], ◌∷◌, length, take, drop, Option, Some, None, inl, inr, refl, ap, sym, ◌∙◌, subst, arith}
use Rattle.std.specs.Prelude.{◌↔◌, ◌<ℤ◌, ◌≤ℤ◌, ◌==◌, if◌then◌else◌, int_le, int_lt, is_some, nat_le, slice_get, IsTrue}
use Rattle.std.specs.List.{list_all}
use Rattle.std.proofs.lemmas.Bool.{cases_Bool}
use Rattle.std.proofs.lemmas.Bool.Decides.{nat_tests}
use Rattle.std.proofs.lemmas.Int.{ints}
use Rattle.zk_transcript.specs.declared.transcript.TranscriptLine.{TranscriptLine}
use Rattle.zk_transcript.specs.declared.transcript.TranscriptLine.TheVariants.{Update, Open, Frame as FrameLine, Send, Lapse, Close}
use Rattle.zk_service.specs.declared.update.UpdateRec.{UpdateRec}
use Rattle.zk_service.specs.declared.update.UpdateKind.{UpdateKind}
use Rattle.zk_service.specs.declared.update.UpdateKind.TheVariants as kind
use Rattle.zk_service.specs.States.{State, session_at}
use Rattle.zk_transcript.specs.History.{connect, first_place, state_at, when}
use Rattle.zk_transcript.specs.Legal.{Attachment, attach_in, attach_of, attach_shown}
use Rattle.zk_transcript.specs.Walks.{Due, at_start, packets, packets_from, placed_frame}
use Rattle.zk_transcript.specs.Conversations.{IsConnectAnswered, IsLawfulAndFresh, IsRefused, IsWelcomed, are_before_close, close_shown, is_before, later_packets}
use Rattle.zk_least.specs.LeastSteps.{is_least}
use Rattle.zk_least.specs.LeastWalk.{least_walk}
use Rattle.zk_transcript.proofs.Walks.{first_place-bound}
use Rattle.zk_least.proofs.FirstPlaces.{first_place-at}
use Rattle.zk_least.proofs.LeastWalkLaw.{attached-above-zero}
use Rattle.zk_least.proofs.Rising.{IsRaised, Rises, at-line, not-below, rising, started}
use Rattle.zk_legal.specs.Faults.{history_fault}
use Rattle.zk_judge.specs.Fronts.{IsTold}
use Rattle.zk_judge.specs.Staged.{IsDeciding, IsStaged}
use Rattle.zk_judge.specs.declared.conversations.Stage.{Stage}
use Rattle.zk_judge.specs.declared.conversations.Stage.TheVariants as stage
use Rattle.zk_judge.specs.Waiting.{IsEarliest}
use Rattle.zk_judge.proofs.Replied.{front-told}
use Rattle.zk_judge.proofs.Lawful.{judged-when, lawful-when, legal-when, zxids-when}
use Rattle.zx_base.proofs.Booleans.{and-false}

abbrev IsRunning : List TranscriptLine → Type 0
IsRunning lines = history_fault lines ≡ None

-- ---- where packets stand

pub packets-within : (c k : ℕ) (ls : List TranscriptLine) (p : Due) (ps : List Due) → packets_from c k ls ≡ p ∷ ps → p.0 < k + length ls
packets-within c k [] p ps h = absurd (cc)
packets-within c k (Send d bytes ∷ ls) p ps h = by (c == d) (packets-within c (k + 1) ls p ps) h
  where
    by : (b : Bool) → (packets_from c (k + 1) ls ≡ p ∷ ps → p.0 < (k + 1) + length ls) → (if b then (k, bytes) ∷ packets_from c (k + 1) ls else packets_from c (k + 1) ls) ≡ p ∷ ps → p.0 < k + length (Send d bytes ∷ ls)
    by true later e = let same : (k, bytes) ≡ p = cc in omega (arith, ap (λ (q : Due). q.0) same)
    by false later e = omega (arith, later e)
packets-within c k (Update u ∷ ls) p ps h = omega (arith, packets-within c (k + 1) ls p ps h)
packets-within c k (Open d x id pw layout ∷ ls) p ps h = omega (arith, packets-within c (k + 1) ls p ps h)
packets-within c k (FrameLine d i z bytes ∷ ls) p ps h = omega (arith, packets-within c (k + 1) ls p ps h)
packets-within c k (Lapse r id ∷ ls) p ps h = omega (arith, packets-within c (k + 1) ls p ps h)
packets-within c k (Close d e ∷ ls) p ps h = omega (arith, packets-within c (k + 1) ls p ps h)

-- ---- packets of a connection that is not closed

all-before : (ps : List Due) → true ≡ list_all (λ (p : Due). is_before p.0 None) ps
all-before [] = refl
all-before (p ∷ ps) = all-before ps

pub never-closed : (lines : List TranscriptLine) (c : ℕ) → None ≡ first_place (close_shown c) 0 lines → true ≡ are_before_close lines c
never-closed lines c none = rw (← none) (all-before (packets c lines))

-- ---- the first packet

pub none-sent : (ps : List Due) → None ≡ slice_get ps 0 → ps ≡ []
none-sent [] e = refl
none-sent (p ∷ ps) e = absurd (cc)

pub first-sent : (ps : List Due) (p : Due) → Some p ≡ slice_get ps 0 → ps ≡ p ∷ drop 1 ps
first-sent [] p e = absurd (cc)
first-sent (q ∷ ps) p e = let same : p ≡ q = cc in ap (λ (x : Due). x ∷ ps) (sym same)

pub one-sent : (ps : List Due) (p : Due) → Some p ≡ slice_get ps 0 → length ps ≡ 1 → ps ≡ p ∷ []
one-sent [] p e one = absurd (cc)
one-sent (q ∷ []) p e one = let same : p ≡ q = cc in ap (λ (x : Due). x ∷ []) (sym same)
one-sent (q ∷ r ∷ ps) p e one = absurd (omega (arith, one))

pub record IsCrowd (ps : List Due) (p : Due) : Type 0 where
  pub next : Due
  pub rest : List Due
  pub is : ps ≡ p ∷ next ∷ rest

-- ---- conversations that are told by their first packets

-- what the connect was answered with decides, where no session was attached
pub refused-lawful : (lines : List TranscriptLine) (c : ℕ) (p : Due) → IsRunning lines → attach_of c lines ≡ None → are_before_close lines c ≡ true → packets c lines ≡ p ∷ []
    → IsRefused lines c p (placed_frame c 0 lines) (connect c lines) ↔ IsLawfulAndFresh lines c
refused-lawful lines c p run unattached in_time sent = (
  λ refused. lawful-when lines c run (record {
    in_time = in_time;
    connected = subst (λ (xs : List Due). IsConnectAnswered lines c xs (attach_of c lines)) (sym sent) (subst (λ (o : Option (ℕ × Attachment)). IsConnectAnswered lines c (p ∷ []) o) (sym unattached) (refused, refl));
    walks = λ a at. absurd (cc);
  }),
  λ lawful. (subst (λ (o : Option (ℕ × Attachment)). IsConnectAnswered lines c (p ∷ []) o) unattached (subst (λ (xs : List Due). IsConnectAnswered lines c xs (attach_of c lines)) sent (judged-when lines c run lawful).connected)).0,
)

pub record IsAttached (lines : List TranscriptLine) (c place : ℕ) (zxid id : ℤ) : Type 0 where
  pub run : IsRunning lines
  pub line : attach_of c lines ≡ Some (place, record { zxid = zxid; session = id })

abbrev Answers : List TranscriptLine → ℕ → ℕ → ℤ → Due → Type 0
Answers lines c place id p = IsWelcomed lines c place id p (connect c lines) (session_at id (state_at lines (place + 1)))

-- after a welcome the least walk decides
pub welcome-lawful : (lines : List TranscriptLine) (c place : ℕ) (zxid id : ℤ) (p : Due) (ps : List Due) → IsAttached lines c place zxid id → are_before_close lines c ≡ true → packets c lines ≡ p ∷ ps → Answers lines c place id p
    → IsTrue (is_least lines c id (at_start zxid (place + 1)) (drop 1 (packets c lines))) ↔ IsLawfulAndFresh lines c
welcome-lawful lines c place zxid id p ps at in_time sent welcome = (
  λ least. lawful-when lines c at.run (record {
    in_time = in_time;
    connected = subst (λ (xs : List Due). IsConnectAnswered lines c xs (attach_of c lines)) (sym sent) (subst (λ (o : Option (ℕ × Attachment)). IsConnectAnswered lines c (p ∷ ps) o) (sym at.line) welcome);
    walks = λ a is. let same : (place, record { zxid = zxid; session = id }) ≡ a = cc in
        subst (λ (x : ℕ × Attachment). IsTrue (is_some (least_walk lines c x.1.session x.1.zxid (x.0 + 1) (later_packets c lines)))) same least;
  }),
  λ lawful. (judged-when lines c at.run lawful).walks (place, record { zxid = zxid; session = id }) at.line,
)

-- ---- no reply has a moment before the attachment's line

record IsUpdateLine (l : TranscriptLine) (a : Attachment) : Type 0 where
  pub update : UpdateRec
  pub is : l ≡ Update update
  pub zxid : update.zxid ≡ a.zxid

attaching : (c : ℕ) (l : TranscriptLine) (a : Attachment) → attach_shown c l ≡ Some a → IsUpdateLine l a
attaching c (Update u) a h = by u.kind h
  where
    on : (b : Bool) (id : ℤ) → when b (record { zxid = u.zxid; session = id }) ≡ Some a → IsUpdateLine (Update u) a
    on true id e = let same : ◌≡◌ {A = Attachment} (record { zxid = u.zxid; session = id }) a = cc in record { update = u; is = refl; zxid = ap (λ (x : Attachment). x.zxid) same }
    on false id e = absurd (cc)

    by : (k : UpdateKind) → attach_in c u.zxid k ≡ Some a → IsUpdateLine (Update u) a
    by (kind.Session id d) e = on (c == d) id e
    by (kind.Attach id d) e = on (c == d) id e
    by (kind.Begin now) e = absurd (cc)
    by (kind.Asked d i now) e = absurd (cc)
    by (kind.Closed id d i) e = absurd (cc)
    by (kind.Reaped id) e = absurd (cc)
attaching c (Open d x id pw layout) a h = absurd (cc)
attaching c (FrameLine d i z bytes) a h = absurd (cc)
attaching c (Send d bytes) a h = absurd (cc)
attaching c (Lapse r id) a h = absurd (cc)
attaching c (Close d e) a h = absurd (cc)

raised-above : (s t b : State) (y z : ℤ) → Rises s t → IsRaised b t y → s.updates ≤ b.updates → y ≡ z → s.zxid <ℤ z
raised-above s t b y z (inl a) r few is = absurd (omega (arith, a.0, r.updates, few))
raised-above s t b y z (inr a) r few is = omega (arith, ints, a.1, r.zxid, is)

lower-before : (lines : List TranscriptLine) (c place m : ℕ) (zxid id : ℤ) → IsAttached lines c place zxid id → m < place + 1 → (state_at lines m).zxid <ℤ zxid
lower-before lines c place m zxid id at less =
    let legal = legal-when lines at.run in
    let f = first_place-at (attach_shown c) 0 lines (place, record { zxid = zxid; session = id }) at.line in
    let place-is = f.at in
    let u = attaching c f.line (record { zxid = zxid; session = id }) f.shown in
    let there : slice_get lines f.place ≡ Some (Update u.update) = f.there ∙ ap Some u.is in
    let r = at-line lines f.place u.update legal there in
    let positive = attached-above-zero lines c (place, record { zxid = zxid; session = id }) legal (zxids-when lines at.run) at.line in
    elim (cases_Bool (int_lt (pos 0) (state_at lines m).zxid)) [
      | inr not ↦ let low : (state_at lines m).zxid ≤ℤ pos 0 = grind (arith, nat_tests, ints, not) in omega (arith, ints, low, positive)
      | inl raised ↦
          let up : pos 0 <ℤ (state_at lines m).zxid = grind (arith, nat_tests, ints, raised) in
          let some = started lines m legal up in
          let before = not-below lines m f.place legal (omega (arith, less, place-is)) some in
          raised-above (state_at lines m) (state_at lines (f.place + 1)) (state_at lines f.place) u.update.zxid zxid (rising lines m (f.place + 1) legal (omega (arith, less, place-is)) some) r before.0 u.zxid
    ]

pub start-earliest : (lines : List TranscriptLine) (c place : ℕ) (zxid id : ℤ) → IsAttached lines c place zxid id → IsEarliest lines (at_start zxid (place + 1)) (place + 1)
start-earliest lines c place zxid id at m less =
    let low = lower-before lines c place m zxid id at less in
    let late : int_le zxid (state_at lines m).zxid ≡ false = grind (arith, nat_tests, ints, low) in
    rw late (and-false (nat_le 0 (length (take m lines))))

pub start-told : (lines : List TranscriptLine) (c place : ℕ) (zxid id : ℤ) → IsAttached lines c place zxid id → IsTold lines (at_start zxid (place + 1))
start-told lines c place zxid id at =
    let legal = legal-when lines at.run in
    let f = first_place-at (attach_shown c) 0 lines (place, record { zxid = zxid; session = id }) at.line in
    let place-is = f.at in
    let u = attaching c f.line (record { zxid = zxid; session = id }) f.shown in
    let r = at-line lines f.place u.update legal (f.there ∙ ap Some u.is) in
    let same : f.place + 1 ≡ place + 1 = omega (arith, place-is) in
    front-told lines (at_start zxid (place + 1)) (place + 1) legal (ap (λ k. (state_at lines k).zxid) (sym same) ∙ r.zxid ∙ u.zxid) (omega arith)

pub start-above : (lines : List TranscriptLine) (c place : ℕ) (zxid id : ℤ) → IsAttached lines c place zxid id → pos 0 <ℤ zxid
start-above lines c place zxid id at = attached-above-zero lines c (place, record { zxid = zxid; session = id }) (legal-when lines at.run) (zxids-when lines at.run) at.line

-- ---- after the last moment nothing is left to be found out

pub attached-within : (lines : List TranscriptLine) (c place : ℕ) (a : Attachment) → attach_of c lines ≡ Some (place, a) → place < length lines
attached-within lines c place a at = omega (arith, first_place-bound (attach_shown c) 0 lines (place, a) at)

-- ---- what decides one thing decides another that stands and falls with it

pub deciding : (lines : List TranscriptLine) (m : ℕ) (P Q : Type 0) (s : Stage) → P ↔ Q → IsDeciding lines m P s → IsDeciding lines m Q s
deciding lines m P Q (stage.Attached place zxid session) same d = d
deciding lines m P Q (stage.Refused first last r) same d = ((λ x. same.0 (d.0.0 x), λ y. d.0.1 (same.1 y)), d.1, d.2, d.3)
deciding lines m P Q (stage.Walks w) same d = ((λ x. same.0 (d.0.0 x), λ y. d.0.1 (same.1 y)), d.1)

pub staged : (lines : List TranscriptLine) (m c : ℕ) (s : Stage) → IsDeciding lines m (IsLawfulAndFresh lines c) s → IsStaged lines m c s
staged lines m c (stage.Attached place zxid session) d = absurd d
staged lines m c (stage.Refused first last r) d = d
staged lines m c (stage.Walks w) d = d
