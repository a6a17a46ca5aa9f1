-- The packets of each connection stand within it: the answer to the connect first, none after the close.
use Rattle.std.proofs.Common.{Bool, List, [], ap, append-nil, append_assoc, arith, false, length, refl, subst, suc, sym, true, ℕ, ℤ, ◌++◌, ◌+◌, ◌<◌, ◌∙◌, ◌∷◌, ◌≡◌, ◌≤◌}
use Rattle.std.proofs.lemmas.Bool.Decides.{nat_tests}
use Rattle.std.proofs.lemmas.List.Elements.{All-cons, All-head, All-nil, All-tail}
use Rattle.std.specs.List.{list_all}
use Rattle.std.specs.Prelude.{All, IsTrue, None, Option, Some, if◌then◌else◌, nat_lt, option_and_then, ◌==◌}
use Rattle.zk_service.specs.declared.fresh.Fresh.{Fresh}
use Rattle.zk_jute.specs.Connects.{read_connect}
use Rattle.zk_jute.specs.Packets.{connect_packet}
use Rattle.zk_model.specs.declared.connect.ConnectRequest.{ConnectRequest}
use Rattle.zk_transcript.proofs.Appending.{first_place-push}
use Rattle.zk_transcript.proofs.Attachments.{attach_of-skip}
use Rattle.zk_transcript.proofs.Histories.{first_shown-push}
use Rattle.zk_transcript.proofs.Lookups.{first_place-new, within}
use Rattle.zk_transcript.proofs.Walks.{state_at-push}
use Rattle.zk_transcript.specs.Conversations.{IsConnectAnswered, IsInConnection, IsRefused, IsWelcomed, are_before_close, close_shown, is_before}
use Rattle.zk_service.specs.Answers.{may_refuse, refusal, welcome}
use Rattle.zk_service.specs.States.{Session, session_at}
use Rattle.zk_transcript.specs.History.{connect, first_place, frame, frame_shown, open_shown, opening, state_at, when}
use Rattle.zk_transcript.specs.Legal.{Attachment, attach_of}
use Rattle.zk_transcript.specs.Walks.{Due, packets, packets_from, placed_frame}
use Rattle.zk_service.specs.declared.cause.Ended.{Ended}
use Rattle.zk_transcript.specs.declared.transcript.TranscriptLine.TheVariants.{Close, Frame as FrameLine, Lapse as LapseLine, Open, Send, Update}
use Rattle.zk_transcript.specs.declared.transcript.TranscriptLine.{TranscriptLine}
use Rattle.zp_world_laws.proofs.Actions.{said, said-speech}
use Rattle.zp_world_laws.proofs.Closing.{AreShown}
use Rattle.zp_world_laws.proofs.Knowing.{said-aside}
use Rattle.zp_world_laws.proofs.Lines.{is_plain, packets-plain, plain-attach}
use Rattle.zp_world_laws.proofs.Naming.{attach-unnamed, close-none, packets-unnamed}
use Rattle.zp_world_laws.proofs.Packets.{packets-append}
use Rattle.zp_world_laws.proofs.Speaking.{attach-speech}
use Rattle.zp_world_laws.proofs.Talking.{first_place-front}
use Rattle.zp_world_laws.specs.Counting.{IsLined}
use Rattle.zp_world_laws.specs.Naming.{is_unnamed}
use Rattle.zx_base.proofs.Options.{none_some}
use Rattle.zx_base.proofs.Booleans.{and-both as both-true, same-test as same-nat}

-- ---- packets stand at lines

abbrev pub IsBelow : ℕ → Due → Type 0
IsBelow n p = p.0 < n

more-below : (m n : ℕ) (ps : List Due) → m ≤ n → All (IsBelow m) ps → All (IsBelow n) ps
more-below m n [] le h = All-nil (IsBelow n)
more-below m n (p ∷ ps) le h = All-cons (IsBelow n) p ps (let b = All-head (IsBelow m) p ps h in omega (arith, b, le)) (more-below m n ps le (All-tail (IsBelow m) p ps h))

packets-below : (c k : ℕ) (ls : List TranscriptLine) → All (IsBelow (k + length ls)) (packets_from c k ls)
packets-below c k [] = All-nil (IsBelow (k + 0))
packets-below c k (Send d bytes ∷ ls) = go (c == d) (more-below ((k + 1) + length ls) (k + suc (length ls)) (packets_from c (k + 1) ls) (omega arith) (packets-below c (k + 1) ls))
  where
    go : (b : Bool) → All (IsBelow (k + suc (length ls))) (packets_from c (k + 1) ls) → All (IsBelow (k + suc (length ls))) (if b then (k, bytes) ∷ packets_from c (k + 1) ls else packets_from c (k + 1) ls)
    go true rest = All-cons (IsBelow (k + suc (length ls))) (k, bytes) (packets_from c (k + 1) ls) (omega arith) rest
    go false rest = rest
packets-below c k (Update u ∷ ls) = more-below ((k + 1) + length ls) (k + suc (length ls)) (packets_from c (k + 1) ls) (omega arith) (packets-below c (k + 1) ls)
packets-below c k (Open a b d e layout ∷ ls) = more-below ((k + 1) + length ls) (k + suc (length ls)) (packets_from c (k + 1) ls) (omega arith) (packets-below c (k + 1) ls)
packets-below c k (FrameLine a b d e ∷ ls) = more-below ((k + 1) + length ls) (k + suc (length ls)) (packets_from c (k + 1) ls) (omega arith) (packets-below c (k + 1) ls)
packets-below c k (LapseLine a b ∷ ls) = more-below ((k + 1) + length ls) (k + suc (length ls)) (packets_from c (k + 1) ls) (omega arith) (packets-below c (k + 1) ls)
packets-below c k (Close a b ∷ ls) = more-below ((k + 1) + length ls) (k + suc (length ls)) (packets_from c (k + 1) ls) (omega arith) (packets-below c (k + 1) ls)

pub packets-within : (c : ℕ) (lines : List TranscriptLine) → All (IsBelow (length lines)) (packets c lines)
packets-within c lines = more-below (0 + length lines) (length lines) (packets c lines) (omega arith) (packets-below c 0 lines)

-- ---- what it was sent stays lawful while lines are added

pub connect-push : (lines more : List TranscriptLine) (c : ℕ) (r : ConnectRequest) → connect c lines ≡ Some r → connect c (lines ++ more) ≡ Some r
connect-push lines more c r h = go (frame c 0 lines) refl h
  where
    go : (o : Option (List ℕ)) → frame c 0 lines ≡ o → option_and_then read_connect o ≡ Some r → connect c (lines ++ more) ≡ Some r
    go None e g = absurd (none_some g)
    go (Some bytes) e g = ap (option_and_then read_connect) (first_shown-push (frame_shown c 0) lines more bytes e) ∙ g

welcomed-push : (lines more : List TranscriptLine) (c k : ℕ) (id : ℤ) (p : Due) → p.0 < length lines → IsWelcomed lines c k id p (connect c lines) (session_at id (state_at lines (k + 1))) → IsWelcomed (lines ++ more) c k id p (connect c (lines ++ more)) (session_at id (state_at (lines ++ more) (k + 1)))
welcomed-push lines more c k id p below h = go (connect c lines) refl (session_at id (state_at lines (k + 1))) refl h
  where
    go : (o : Option ConnectRequest) → connect c lines ≡ o → (s : Option Session) → session_at id (state_at lines (k + 1)) ≡ s → IsWelcomed lines c k id p o s → IsWelcomed (lines ++ more) c k id p (connect c (lines ++ more)) (session_at id (state_at (lines ++ more) (k + 1)))
    go None e s f g = absurd g
    go (Some r) e None f g = absurd g
    go (Some r) e (Some x) f g =
        subst (λ o. IsWelcomed (lines ++ more) c k id p o (session_at id (state_at (lines ++ more) (k + 1)))) (sym (connect-push lines more c r e))
        (subst (λ o. IsWelcomed (lines ++ more) c k id p (Some r) o) (sym (ap (session_at id) (state_at-push lines more (k + 1) (omega (arith, g.0, below))) ∙ f)) g)

refused-push : (lines more : List TranscriptLine) (c : ℕ) (p : Due) → p.0 < length lines → IsRefused lines c p (placed_frame c 0 lines) (connect c lines) → IsRefused (lines ++ more) c p (placed_frame c 0 (lines ++ more)) (connect c (lines ++ more))
refused-push lines more c p below h = go (placed_frame c 0 lines) refl (connect c lines) refl h
  where
    go : (f : Option (ℕ × List ℕ)) → placed_frame c 0 lines ≡ f → (o : Option ConnectRequest) → connect c lines ≡ o → IsRefused lines c p f o → IsRefused (lines ++ more) c p (placed_frame c 0 (lines ++ more)) (connect c (lines ++ more))
    go None d o e g = absurd g
    go (Some f) d None e g = absurd g
    go (Some f) d (Some r) e (m, after, before, may, is) =
        subst (λ o. IsRefused (lines ++ more) c p (placed_frame c 0 (lines ++ more)) o) (sym (connect-push lines more c r e))
        (subst (λ o. IsRefused (lines ++ more) c p o (Some r)) (sym (first_place-push (frame_shown c 0) 0 lines more f d))
        (m, after, before, subst (λ s. IsTrue (may_refuse r s)) (sym (state_at-push lines more m (omega (arith, before, below)))) may, is))

answered-push : (lines more : List TranscriptLine) (c : ℕ) (ps : List Due) (o : Option (ℕ × Attachment)) → All (IsBelow (length lines)) ps → IsConnectAnswered lines c ps o → IsConnectAnswered (lines ++ more) c ps o
answered-push lines more c [] o below h = h
answered-push lines more c (p ∷ ps) None below h = (refused-push lines more c p (All-head (IsBelow (length lines)) p ps below) h.0, h.1)
answered-push lines more c (p ∷ ps) (Some a) below h = welcomed-push lines more c a.0 a.1.session p (All-head (IsBelow (length lines)) p ps below) h

-- ---- lines that are no packets of it, and neither open, attach nor close it

unopened-before : (lines more : List TranscriptLine) (c : ℕ) → opening c (lines ++ more) ≡ None → opening c lines ≡ None
unopened-before lines more c h = go (opening c lines) refl
  where
    go : (o : Option Fresh) → opening c lines ≡ o → o ≡ None
    go None e = refl
    go (Some x) e = absurd (none_some (sym h ∙ first_shown-push (open_shown c) lines more x e))

pub within-aside : (lines more : List TranscriptLine) (c : ℕ) → packets c (lines ++ more) ≡ packets c lines → attach_of c (lines ++ more) ≡ attach_of c lines → ((n : ℕ) → first_place (close_shown c) n more ≡ None) → IsInConnection lines c → IsInConnection (lines ++ more) c
within-aside lines more c packets_same attach_same closes k = record {
  silent = λ e. packets_same ∙ k.silent (unopened-before lines more c e);
  connected = subst (λ ps. IsConnectAnswered (lines ++ more) c ps (attach_of c (lines ++ more))) (sym packets_same) (subst (λ o. IsConnectAnswered (lines ++ more) c (packets c lines) o) (sym attach_same) (answered-push lines more c (packets c lines) (attach_of c lines) (packets-within c lines) k.connected));
  in_time = subst (λ ps. list_all (λ (p : Due). is_before p.0 (first_place (close_shown c) 0 (lines ++ more))) ps ≡ true) (sym packets_same)
      (subst (λ o. list_all (λ (p : Due). is_before p.0 o) (packets c lines) ≡ true) (sym (first_place-front (close_shown c) 0 lines more closes)) k.in_time);
}

-- nothing was sent to it
pub within-silent : (lines : List TranscriptLine) (c : ℕ) → packets c lines ≡ [] → IsInConnection lines c
within-silent lines c none = record {
  silent = λ e. none;
  connected = subst (λ ps. IsConnectAnswered lines c ps (attach_of c lines)) (sym none) tt;
  in_time = subst (λ ps. list_all (λ (p : Due). is_before p.0 (first_place (close_shown c) 0 lines)) ps ≡ true) (sym none) refl;
}

pub within-unnamed : (lines more : List TranscriptLine) (c : ℕ) → is_unnamed c more ≡ true → IsInConnection lines c → IsInConnection (lines ++ more) c
within-unnamed lines more c h k = within-aside lines more c (packets-unnamed c lines more h) (attach-unnamed c lines more h) (λ n. close-none c n more h) k

-- ---- its close

all-before : (n c : ℕ) (ps : List Due) → All (IsBelow n) ps → list_all (λ (p : Due). is_before p.0 (Some (n, c))) ps ≡ true
all-before n c [] h = refl
all-before n c (p ∷ ps) h = both-true (nat_lt p.0 n) (list_all (λ (q : Due). is_before q.0 (Some (n, c))) ps) (let b = All-head (IsBelow n) p ps h in grind (arith, nat_tests)) (all-before n c ps (All-tail (IsBelow n) p ps h))

pub within-close : (lines : List TranscriptLine) (c : ℕ) (end : Ended) → IsInConnection lines c → IsInConnection (lines ++ Close c end ∷ []) c
within-close lines c end k = record {
  silent = λ e. same ∙ k.silent (unopened-before lines (Close c end ∷ []) c e);
  connected = subst (λ ps. IsConnectAnswered (lines ++ Close c end ∷ []) c ps (attach_of c (lines ++ Close c end ∷ []))) (sym same)
      (subst (λ o. IsConnectAnswered (lines ++ Close c end ∷ []) c (packets c lines) o) (sym (attach_of-skip lines (Close c end) c refl)) (answered-push lines (Close c end ∷ []) c (packets c lines) (attach_of c lines) (packets-within c lines) k.connected));
  in_time = subst (λ ps. list_all (λ (p : Due). is_before p.0 (first_place (close_shown c) 0 (lines ++ Close c end ∷ []))) ps ≡ true) (sym same) (go (first_place (close_shown c) 0 lines) refl);
}
  where
    same : packets c (lines ++ Close c end ∷ []) ≡ packets c lines
    same = packets-plain c lines (Close c end) refl

    go : (o : Option (ℕ × ℕ)) → first_place (close_shown c) 0 lines ≡ o → list_all (λ (p : Due). is_before p.0 (first_place (close_shown c) 0 (lines ++ Close c end ∷ []))) (packets c lines) ≡ true
    go None e = subst (λ o. list_all (λ (p : Due). is_before p.0 o) (packets c lines) ≡ true)
        (sym (first_place-new (close_shown c) 0 lines (Close c end) c e (ap (λ b. when b c) (same-nat c)) ∙ ap (λ n. Some (n, c)) (omega arith))) (all-before (length lines) c (packets c lines) (packets-within c lines))
    go (Some x) e = subst (λ o. list_all (λ (p : Due). is_before p.0 o) (packets c lines) ≡ true) (e ∙ sym (first_place-push (close_shown c) 0 lines (Close c end ∷ []) x e)) k.in_time

-- ---- its frames

pub within-plain : (lines : List TranscriptLine) (l : TranscriptLine) (c : ℕ) → is_plain l ≡ true → ((n : ℕ) → first_place (close_shown c) n (l ∷ []) ≡ None) → IsInConnection lines c → IsInConnection (lines ++ l ∷ []) c
within-plain lines l c plain closes k = within-aside lines (l ∷ []) c (packets-plain c lines l plain) (attach_of-skip lines l c (plain-attach c l plain)) closes k

pub within-frame : (lines : List TranscriptLine) (c i : ℕ) (z : ℤ) (bytes : List ℕ) → IsInConnection lines c → IsInConnection (lines ++ FrameLine c i z bytes ∷ []) c
within-frame lines c i z bytes k = within-plain lines (FrameLine c i z bytes) c refl (λ n. refl) k

pub within-shown : (lines : List TranscriptLine) (c : ℕ) (z : ℤ) (ls : List TranscriptLine) → AreShown c z ls → IsInConnection lines c → IsInConnection (lines ++ ls) c
within-shown lines c z [] h k = subst (λ l. IsInConnection l c) (sym (append-nil lines)) k
within-shown lines c z (l ∷ ls) (f, more) k =
    subst (λ m. IsInConnection m c) (append_assoc lines (l ∷ []) ls)
    (within-shown (lines ++ l ∷ []) c z ls more (subst (λ m. IsInConnection (lines ++ m ∷ []) c) (sym f.is) (within-frame lines c f.index z f.bytes k)))

-- its end, after the frames that came with the last one
pub within-end : (lines : List TranscriptLine) (c : ℕ) (z : ℤ) (after : List TranscriptLine) (end : Ended) → AreShown c z after → IsInConnection lines c → IsInConnection (lines ++ (after ++ Close c end ∷ [])) c
within-end lines c z after end h k = subst (λ l. IsInConnection l c) (append_assoc lines after (Close c end ∷ [])) (within-close (lines ++ after) c end (within-shown lines c z after h k))

pub within-same : (lines : List TranscriptLine) (c : ℕ) → IsInConnection lines c → IsInConnection (lines ++ []) c
within-same lines c k = subst (λ l. IsInConnection l c) (sym (append-nil lines)) k

-- ---- its packets

unended-before : (ps : List Due) → list_all (λ (p : Due). is_before p.0 None) ps ≡ true
unended-before [] = refl
unended-before (p ∷ ps) = unended-before ps

-- an open connection is sent these
module _ (lines : List TranscriptLine) (c n : ℕ) (ps : List (List ℕ)) (lined : IsLined lines c n) where
  is-open : opening c (lines ++ said c ps) ≡ None → ⊥
  is-open e = none_some (sym (unopened-before lines (said c ps) c e) ∙ lined.opened)

  still-open : first_place (close_shown c) 0 (lines ++ said c ps) ≡ None
  still-open = first_place-front (close_shown c) 0 lines (said c ps) (λ j. (said-aside c ps c).closes j) ∙ lined.unended

  in-time : are_before_close (lines ++ said c ps) c ≡ true
  in-time = subst (λ o. list_all (λ (p : Due). is_before p.0 o) (packets c (lines ++ said c ps)) ≡ true) (sym still-open) (unended-before (packets c (lines ++ said c ps)))

  attach-same : attach_of c (lines ++ said c ps) ≡ attach_of c lines
  attach-same = attach-speech c c lines (said c ps) (said-speech c ps)

  -- after the welcome
  pub within-more : (a : ℕ × Attachment) (p : Due) (qs : List Due) → attach_of c lines ≡ Some a → packets c lines ≡ p ∷ qs → IsInConnection lines c → IsInConnection (lines ++ said c ps) c
  within-more a p qs attached sent k = record {
    silent = λ e. absurd (is-open e);
    connected = subst (λ o. IsConnectAnswered (lines ++ said c ps) c (packets c (lines ++ said c ps)) o) (sym (attach-same ∙ attached))
        (subst (λ l. IsConnectAnswered (lines ++ said c ps) c l (Some a)) (sym (packets-append c lines (said c ps) ∙ ap (λ l. l ++ packets_from c (length lines) (said c ps)) sent))
        (answered-push lines (said c ps) c (p ∷ qs) (Some a) (subst (All (IsBelow (length lines))) sent (packets-within c lines)) (subst (λ o. IsConnectAnswered lines c (p ∷ qs) o) attached (subst (λ l. IsConnectAnswered lines c l (attach_of c lines)) sent k.connected))));
    in_time = in-time;
  }

  -- the welcome first
  pub within-first : (a : ℕ × Attachment) (p : Due) (qs : List Due) (r : ConnectRequest) (x : Session) → attach_of c lines ≡ Some a → packets c (lines ++ said c ps) ≡ p ∷ qs → connect c lines ≡ Some r → session_at a.1.session (state_at lines (a.0 + 1)) ≡ Some x → a.0 < length lines → a.0 < p.0
      → p.1 ≡ connect_packet (welcome r a.1.session x) → IsInConnection (lines ++ said c ps) c
  within-first a p qs r x attached sent connected there within before is = record {
    silent = λ e. absurd (is-open e);
    connected = subst (λ o. IsConnectAnswered (lines ++ said c ps) c (packets c (lines ++ said c ps)) o) (sym (attach-same ∙ attached))
        (subst (λ l. IsConnectAnswered (lines ++ said c ps) c l (Some a)) (sym sent)
        (subst (λ o. IsWelcomed (lines ++ said c ps) c a.0 a.1.session p o (session_at a.1.session (state_at (lines ++ said c ps) (a.0 + 1)))) (sym (connect-push lines (said c ps) c r connected))
        (subst (λ o. IsWelcomed (lines ++ said c ps) c a.0 a.1.session p (Some r) o) (sym (ap (session_at a.1.session) (state_at-push lines (said c ps) (a.0 + 1) (omega (arith, within))) ∙ there)) (before, is))));
    in_time = in-time;
  }

  -- the refusal alone
  pub within-refusal : (p : Due) (f : ℕ × List ℕ) (r : ConnectRequest) (m : ℕ) → attach_of c lines ≡ None → packets c (lines ++ said c ps) ≡ p ∷ [] → placed_frame c 0 lines ≡ Some f → connect c lines ≡ Some r → f.0 < m → m ≤ length lines → m ≤ p.0
      → may_refuse r (state_at lines m) ≡ true → p.1 ≡ connect_packet (refusal r) → IsInConnection (lines ++ said c ps) c
  within-refusal p f r m none sent framed connected after within before may is = record {
    silent = λ e. absurd (is-open e);
    connected = subst (λ o. IsConnectAnswered (lines ++ said c ps) c (packets c (lines ++ said c ps)) o) (sym (attach-same ∙ none))
        (subst (λ l. IsConnectAnswered (lines ++ said c ps) c l None) (sym sent) (
          subst (λ o. IsRefused (lines ++ said c ps) c p o (connect c (lines ++ said c ps))) (sym (first_place-push (frame_shown c 0) 0 lines (said c ps) f framed))
              (subst (λ o. IsRefused (lines ++ said c ps) c p (Some f) o) (sym (connect-push lines (said c ps) c r connected))
              (m, after, before, subst (λ s. IsTrue (may_refuse r s)) (sym (state_at-push lines (said c ps) m within)) may, is)),
          refl,
        ));
    in_time = in-time;
  }
