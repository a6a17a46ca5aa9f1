-- Each field of each line of a run is in the range in which it is read, and so the run's text is read back.
use Rattle.std.proofs.Common.{◌≡◌, ℕ, zero, suc, ℤ, pos, ◌<◌, List, [], ◌∷◌, ◌++◌, take, append-nil, refl, sym, ap, ◌∙◌, subst, inl, inr, true, arith}
use Rattle.std.proofs.lemmas.Bool.{and_parts}
use Rattle.std.proofs.lemmas.Int.{ints}
use Rattle.std.proofs.lemmas.List.Elements.{All-head, All-tail, All-weaker}
use Rattle.std.specs.List.{AllByRecursion}
use Rattle.std.specs.Prelude.{All, Some, int_le, int_lt, is_none, nat_lt, slice_get, ◌≤ℤ◌, ◌≤◌, ◌⊎◌}
use Rattle.zk_legal.proofs.NoFault.{history_fault-none}
use Rattle.zk_legal.proofs.WithoutFault.{zxids-range}
use Rattle.zt_lines.proofs.WrittenTranscripts.{transcript-cut, transcript-done, transcript-refused, transcript-unread}
use Rattle.zt_lines.specs.Readable.{FitsCause, FitsEnd, FitsKind, FitsLine, IsLastLine, IsReadBack, IsReadable, IsReason}
use Rattle.zt_lines.specs.Words.{max_place}
use Rattle.zk_model.specs.Limits.{max_long}
use Rattle.zk_transcript.proofs.Conditions.{attach-shows, reaped-lapsed}
use Rattle.zk_transcript.proofs.Placed.{is_legal-at}
use Rattle.zk_transcript.proofs.Prefixes.{begins-take, is_legal-begins, is_legal-take}
use Rattle.zk_transcript.proofs.SoundHistories.{legal-sound}
use Rattle.zk_service.specs.States.{Session, attached_session, session_at}
use Rattle.zk_transcript.specs.History.{connect, frame, opening, request, state_at, begin_lines}
use Rattle.zk_transcript.specs.Legal.{asks_anew, is_close, is_id, is_legal, is_live_as, is_next_zxid, is_small_frame, may_attach, may_update, offers}
use Rattle.zk_service.specs.declared.cause.Cause.TheVariants as cause
use Rattle.zk_service.specs.declared.cause.Cause.{Cause}
use Rattle.zk_service.specs.declared.cause.Ended.TheVariants as ended
use Rattle.zk_service.specs.declared.cause.Ended.{Ended}
use Rattle.zk_transcript.specs.declared.transcript.TranscriptLine.TheVariants.{Close, Frame as FrameLine, Lapse as LapseLine, Open, Send, Update}
use Rattle.zk_transcript.specs.declared.transcript.TranscriptLine.{TranscriptLine}
use Rattle.zk_service.specs.declared.update.UpdateKind.TheVariants as kind
use Rattle.zk_service.specs.declared.update.UpdateKind.{UpdateKind}
use Rattle.zk_service.specs.declared.update.UpdateRec.{UpdateRec}
use Rattle.zp_verdict_laws.proofs.Naturals.{IsNaturalEnd, IsNaturalLine}
use Rattle.zp_verdict_laws.proofs.Running.{run-lines, run-natural}
use Rattle.zp_verdict_laws.proofs.Stored.{IsNatural, IsNaturalCause}
use Rattle.zp_verdict_laws.proofs.Verdict.{every-replay-lawful}
use Rattle.zp_verdict_laws.specs.Written.{AreShort, AreTyped, IsTyped, IsTypedCause, IsTypedEnd, IsTypedKind, LinesOfRunsFit, NamesSession, WrittenReplaysAreLawful}
use Rattle.zp_world_laws.specs.Accounting.{OffersSession}
use Rattle.zt_text.specs.Faults.{fault_text}
use Rattle.zt_text.specs.Transcripts.{transcript_text}
use Rattle.zt_text.specs.declared.script.Happening.TheVariants as line
use Rattle.zt_text.specs.declared.script.Happening.{Happening}
use Rattle.zx_base.proofs.Options.{some_is}

-- ---- what a legal history says of its updates

-- a session's number is above 0
abbrev NamesOne : UpdateKind → Type 0
NamesOne (kind.Begin now) = Unit {0}
NamesOne (kind.Session id c) = pos 1 ≤ℤ id
NamesOne (kind.Attach id c) = pos 1 ≤ℤ id
NamesOne (kind.Asked c i now) = Unit {0}
NamesOne (kind.Closed id c i) = pos 1 ≤ℤ id
NamesOne (kind.Reaped id) = pos 1 ≤ℤ id

id-above : (id : ℤ) → is_id id ≡ true → pos 1 ≤ℤ id
id-above id h = (let low = (and_parts (int_lt (pos 0) id) (int_le id max_long) h).0 in grind (arith, ints, low))

module _ (lines more : List TranscriptLine) (begins : lines ≡ begin_lines 0 ++ more) (legal : is_legal lines ≡ true) where
  -- a session that is open before a line has a number above 0
  open-above : (k : ℕ) (id : ℤ) (x : Session) → session_at id (state_at lines (suc k)) ≡ Some x → pos 1 ≤ℤ id
  open-above k id x there =
      let first : (u : UpdateRec) × (slice_get lines 0 ≡ Some (Update u)) = (_, ap (λ l. slice_get l 0) begins) in
      let front = begins-take lines (suc k) 0 first.0 (omega arith) first.1 (is_legal-begins lines legal) in
      (legal-sound (take (suc k) lines) (is_legal-take lines (suc k) front legal)).numbered id x there

  -- the first line begins, and names none
  first-none : (z : ℤ) (what : UpdateKind) → slice_get lines 0 ≡ Some (Update (record { zxid = z; kind = what })) → NamesOne what
  first-none z what at = subst NamesOne (is-begin (some_is (sym (ap (λ l. slice_get l 0) begins) ∙ at))) tt
    where
      kind_in : TranscriptLine → UpdateKind
      kind_in (Update u) = u.kind
      kind_in _ = kind.Begin 0

      is-begin : {l : TranscriptLine} → l ≡ Update (record { zxid = z; kind = what }) → kind_in l ≡ what
      is-begin e = ap kind_in e

  later-named : (k : ℕ) (z : ℤ) (what : UpdateKind) → slice_get lines (suc k) ≡ Some (Update (record { zxid = z; kind = what })) → NamesOne what
  unfolding may_update
  later-named k z (kind.Begin now) at = tt
  later-named k z (kind.Session id c) at =
      let before = take (suc k) lines in
      let s = state_at lines (suc k) in
      let may = (and_parts (may_update before s z (kind.Session id c)) (is_next_zxid s z) (is_legal-at lines (suc k) _ legal at)).0 in
      let a = and_parts _ (may_attach before c z (connect c before)) may in
      let b = and_parts _ (asks_anew (connect c before)) a.0 in
      let d = and_parts _ (offers id (opening c before)) b.0 in
      id-above id (and_parts (is_none (session_at id s)) (is_id id) d.0).1
  later-named k z (kind.Attach id c) at = (let s = attach-shows lines (suc k) c z id legal at in open-above k id s.1 s.3)
  later-named k z (kind.Asked c i now) at = tt
  later-named k z (kind.Closed id c i) at =
      let before = take (suc k) lines in
      let s = state_at lines (suc k) in
      let may = (and_parts (may_update before s z (kind.Closed id c i)) (is_next_zxid s z) (is_legal-at lines (suc k) _ legal at)).0 in
      let a = and_parts _ (is_close (request c i before)) may in
      let b = and_parts _ (is_small_frame (frame c i before)) a.0 in
      let d = and_parts _ (nat_lt 0 i) b.0 in
      id-above id (and_parts (is_id id) (is_live_as id (attached_session c s)) d.0).0
  later-named k z (kind.Reaped id) at = (let s = reaped-lapsed lines (suc k) z id legal at in open-above k id s.0 s.1)

  named : (k : ℕ) (z : ℤ) (what : UpdateKind) → slice_get lines k ≡ Some (Update (record { zxid = z; kind = what })) → NamesOne what
  named zero z what at = first-none z what at
  named (suc k) z what at = later-named k z what at

-- ---- each line

abbrev UpdateFits : UpdateRec → Type 0
UpdateFits u = IsNatural u.zxid × NamesOne u.kind

kind-fits : (what : UpdateKind) → IsTypedKind what → NamesOne what → FitsKind what
kind-fits (kind.Begin now) t n = t
kind-fits (kind.Session id c) t n = ((n, t.0), t.1)
kind-fits (kind.Attach id c) t n = ((n, t.0), t.1)
kind-fits (kind.Asked c i now) t n = t
kind-fits (kind.Closed id c i) t n = ((n, t.0), t.1, t.2)
kind-fits (kind.Reaped id) t n = (n, t)

cause-fits : (x : Cause) → IsTypedCause x → IsNaturalCause x → FitsCause x
cause-fits cause.Closed t n = tt
cause-fits (cause.ClientEnd place) t n = t
cause-fits cause.ReadFault t n = tt
cause-fits cause.WriteFault t n = tt
cause-fits (cause.BadLength place size) t n = t
cause-fits (cause.NoHeader place) t n = t
cause-fits cause.AuthRefused t n = tt
cause-fits cause.Unknown t n = tt
cause-fits (cause.ZxidAhead client head) t n = ((n.0, t.0), (n.1, t.1))
cause-fits (cause.Taken rev) t n = (n, t)
cause-fits (cause.Expired rev) t n = (n, t)
cause-fits (cause.Moved mine found) t n = ((n.0, t.0), (n.1, t.1))
cause-fits cause.LinkFault t n = tt
cause-fits (cause.Lagged cursor floor) t n = ((n.0, t.0), (n.1, t.1))
cause-fits cause.FeedClosed t n = tt
cause-fits (cause.Damaged key value) t n = t
cause-fits cause.Restart t n = tt
cause-fits cause.Memory t n = tt

end-fits : (end : Ended) → IsTypedEnd end → IsNaturalEnd end → FitsEnd end
end-fits (ended.Cause x) t n = cause-fits x t n
end-fits (ended.Reaped z) t n = (n, t)
end-fits (ended.Kept z) t n = (n, t)
end-fits (ended.Gone z) t n = (n, t)

line-fits : (l : TranscriptLine) → IsTyped l → IsNaturalLine l → ((u : UpdateRec) → l ≡ Update u → UpdateFits u) → FitsLine l
line-fits (Update u) t n f = (let g = f u refl in ((g.0, t.0), kind-fits u.kind t.1 g.1))
line-fits (Open c p id passwd layout) t n f = (t.0, t.1, (n, t.2), t.3)
line-fits (FrameLine c i z bytes) t n f = (t.0, t.1, (n, t.2), t.3)
line-fits (Send c bytes) t n f = t
line-fits (LapseLine z id) t n f = ((n.0, t.0), (n.1, t.1))
line-fits (Close c end) t n f = (t.0, end-fits end t.1 n)

lines-fit : (ls : List TranscriptLine) → AreTyped ls → All IsNaturalLine ls → ((k : ℕ) (u : UpdateRec) → slice_get ls k ≡ Some (Update u) → UpdateFits u) → AllByRecursion FitsLine ls
lines-fit [] t n f = tt
lines-fit (l ∷ ls) t n f =
    (line-fits l (All-head IsTyped l ls t) (All-head IsNaturalLine l ls n) (λ u e. f zero u (ap Some e)), lines-fit ls (All-tail IsTyped l ls t) (All-tail IsNaturalLine l ls n) (λ k u e. f (suc k) u e))

-- ---- those of a run

names-offers : (h : Happening) → NamesSession h → OffersSession h
names-offers (line.Open c p id passwd layout) n = n
names-offers (line.Frame c bytes) n = tt
names-offers (line.Arrive c bytes) n = tt
names-offers (line.Exec c) n = tt
names-offers (line.Answer c) n = tt
names-offers (line.Cut c) n = tt
names-offers (line.Refuse c) n = tt
names-offers (line.Stray k) n = tt
names-offers (line.Entry c) n = tt
names-offers (line.Lag c) n = tt
names-offers (line.End c) n = tt
names-offers (line.Restart p) n = tt
names-offers (line.Lapse id) n = tt
names-offers (line.Foreign k v) n = tt
names-offers (line.Reap c p id) n = tt
names-offers (line.Tick n) m = tt
names-offers (line.Settle c) n = tt

pub all-offer : (hs : List Happening) → All NamesSession hs → All OffersSession hs
all-offer hs names = All-weaker NamesSession OffersSession names-offers hs names

pub lines-of-runs-fit : LinesOfRunsFit
lines-of-runs-fit hs ticks w names counted typed runs =
    let run = (every-replay-lawful hs ticks w (all-offer hs names) counted runs).0 in
    let first = run-lines hs ticks w runs in
    lines-fit w.lines typed (run-natural hs ticks w names runs).lines
    (λ k u at. (zxids-range w.lines run.history k u at, named w.lines first.more first.lines (history_fault-none w.lines run.history) k u.zxid u.kind at))

-- ---- their text

readable : (ls : List TranscriptLine) → AllByRecursion FitsLine ls → AreShort ls → AllByRecursion IsReadable ls
readable [] f s = tt
readable (l ∷ ls) f s = (record { fits = f.0; short = s.0 }, readable ls f.1 s.1)

module _ (lines : List TranscriptLine) (all : AllByRecursion IsReadable lines) where
  read-fault : (n : ℕ) (reason : List ℕ) → 0 < n → n ≤ max_place → IsReason reason → IsReadBack (transcript_text lines ++ fault_text n reason) lines
  read-fault n reason low high (inl (why, is)) = subst (λ r. IsReadBack (transcript_text lines ++ fault_text n r) lines) (sym is) (transcript-refused lines n why all low high)
  read-fault n reason low high (inr (why, is)) = subst (λ r. IsReadBack (transcript_text lines ++ fault_text n r) lines) (sym is) (transcript-unread lines n why all low high)

  read-back : (end : List ℕ) → (end ≡ []) ⊎ IsLastLine end → IsReadBack (transcript_text lines ++ end) lines
  read-back end (inl none) = subst (λ e. IsReadBack e lines) (sym (ap (λ e. transcript_text lines ++ e) none ∙ append-nil (transcript_text lines))) (transcript-cut lines all)
  read-back end (inr (inl done)) = subst (λ e. IsReadBack (transcript_text lines ++ e) lines) (sym done) (transcript-done lines all)
  read-back end (inr (inr (n, reason, low, high, why, is))) = subst (λ e. IsReadBack (transcript_text lines ++ e) lines) (sym is) (read-fault n reason low high why)

pub written-replays-are-lawful : WrittenReplaysAreLawful
written-replays-are-lawful hs ticks w end names counted typed runs last short room = record {
  read = read-back w.lines (readable w.lines (lines-of-runs-fit hs ticks w names counted typed runs) short) end last room;
  lawful = every-replay-lawful hs ticks w (all-offer hs names) counted runs;
}
