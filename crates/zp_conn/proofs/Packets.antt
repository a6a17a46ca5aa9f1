-- Packets, one after the other.
use Rattle.std.proofs.Common.{◌≡◌, ℕ, List, [], ◌∷◌, ◌++◌, true, refl, sym, ap, ◌∙◌, subst, append-nil, append_assoc, map}
use Rattle.std.specs.Prelude.{Option, Some, None, Ok, Err}
use Rattle.zk_service.specs.declared.cause.Cause.{Cause}
use Rattle.ev_types.specs.declared.ask.Ask.{Ask}
use Rattle.zx_base.specs.declared.memory.Memory.{Memory}
use Rattle.zp_step.specs.declared.action.Action.{Action}
use Rattle.zp_step.specs.declared.action.Action.TheVariants as action
use Rattle.zp_step.specs.Ending.{ends_well, is_end, sends}
use Rattle.zp_run.specs.Notes.{Noted, Out, with_note, with_notes}
use Rattle.zp_conn.specs.Speaking.{HasSaid, IsCut, IsRest, IsSpeaking, Says, joined}
use Rattle.zp_conn.specs.declared.speaking.Rest.TheVariants as rest

with_notes-nil : (n : Option (List Noted)) → with_notes n [] ≡ n
with_notes-nil None = refl
with_notes-nil (Some ns) = ap Some (append-nil ns)

joined-push : (ps : List (List ℕ)) (p : List ℕ) → joined (ps ++ p ∷ []) ≡ joined ps ++ p
joined-push [] p = append-nil p
joined-push (q ∷ ps) p = ap (λ l. q ++ l) (joined-push ps p) ∙ sym (append_assoc q (joined ps) p)

outs-push : (ps : List (List ℕ)) (p : List ℕ) → map Out (ps ++ p ∷ []) ≡ map Out ps ++ Out p ∷ []
outs-push [] p = refl
outs-push (q ∷ ps) p = ap (λ l. Out q ∷ l) (outs-push ps p)

notes-push : (n : Option (List Noted)) (ms : List Noted) (m : Noted) → with_note (with_notes n ms) m ≡ with_notes n (ms ++ m ∷ [])
notes-push None ms m = refl
notes-push (Some ns) ms m = ap Some (append_assoc ns ms (m ∷ []))

said-push : (done : List (List ℕ)) (p o o' o'' : List ℕ) (n n' n'' : Option (List Noted)) → HasSaid done o o' n n' → o'' ≡ o' ++ p → n'' ≡ with_note n' (Out p) → HasSaid (done ++ p ∷ []) o o'' n n''
said-push done p o o' o'' n n' n'' h holds notes = record {
  holds = holds ∙ ap (λ l. l ++ p) h.holds ∙ append_assoc o (joined done) p ∙ ap (λ l. o ++ l) (sym (joined-push done p));
  notes = notes ∙ ap (λ m. with_note m (Out p)) h.notes ∙ notes-push n (map Out done) (Out p) ∙ ap (with_notes n) (sym (outs-push done p));
}

pub starts : (out : List Action) (o : List ℕ) (n : Option (List Noted)) → ends_well out ≡ true → IsSpeaking out out o o n n
starts out o n well = record { done = []; sent = refl; asks = refl; closes = refl; well = well; said = record { holds = sym (append-nil o); notes = sym (with_notes-nil n) } }

goes : (out queue : List Action) (p o o' o'' : List ℕ) (n n' n'' : Option (List Noted)) → IsSpeaking out (action.Send p ∷ queue) o o' n n' → Says (Ok tt) p o' o'' n' n'' → IsSpeaking out queue o o'' n n''
goes out queue p o o' o'' n n' n'' h s = record {
  done = h.done ++ p ∷ [];
  sent = h.sent ∙ sym (append_assoc h.done (p ∷ []) (sends queue));
  asks = h.asks;
  closes = h.closes;
  well = h.well;
  said = said-push h.done p o o' o'' n n' n'' h.said s.0 s.1;
}

pub goes_with : (out queue0 queue : List Action) (a : Action) (p o o' o'' : List ℕ) (n n' n'' : Option (List Noted)) → queue0 ≡ a ∷ queue → a ≡ action.Send p → IsSpeaking out queue0 o o' n n' → Says (Ok tt) p o' o'' n' n'' → IsSpeaking out queue o o'' n n''
goes_with out queue0 queue a p o o' o'' n n' n'' e f h s = goes out queue p o o' o'' n n' n'' (subst (λ q. IsSpeaking out q o o' n n') (e ∙ ap (λ b. b ∷ queue) f) h) s

pub cuts : (out queue0 queue : List Action) (a : Action) (p o o' o'' : List ℕ) (n n' n'' : Option (List Noted)) (m : Memory) → queue0 ≡ a ∷ queue → a ≡ action.Send p → IsSpeaking out queue0 o o' n n' → Says (Err m) p o' o'' n' n'' → IsCut (sends out) o o'' n n''
cuts out queue0 queue a p o o' o'' n n' n'' m e f h0 s = record {
  done = h.done;
  next = p;
  later = sends queue;
  split = h.sent;
  mid_notes = n';
  said = record { holds = s.0 ∙ (h.said).holds; notes = (h.said).notes };
  last = s.1;
}
  where
    h : IsSpeaking out (action.Send p ∷ queue) o o' n n'
    h = subst (λ q. IsSpeaking out q o o' n n') (e ∙ ap (λ b. b ∷ queue) f) h0

ended : (q : List Action) → is_end q ≡ true → q ≡ []
ended [] e = refl
ended (a ∷ q) e = absurd (cc)

module _ (out : List Action) (o o' : List ℕ) (n n' : Option (List Noted)) where
  done-all : (queue : List Action) → sends queue ≡ [] → (h : IsSpeaking out queue o o' n n') → HasSaid (sends out) o o' n n'
  done-all queue none h = subst (λ l. HasSaid l o o' n n') (sym (h.sent ∙ ap (λ l. h.done ++ l) none ∙ append-nil h.done)) h.said

  pub asks_last : (queue0 queue : List Action) (a : Action) (q : Ask) → queue0 ≡ a ∷ queue → a ≡ action.Ask q → IsSpeaking out queue0 o o' n n' → HasSaid (sends out) o o' n n' × IsRest out (rest.Ask q)
  asks_last queue0 queue a q e f h0 = go (subst (λ l. IsSpeaking out l o o' n n') (e ∙ ap (λ b. b ∷ queue) f) h0)
    where
      go : IsSpeaking out (action.Ask q ∷ queue) o o' n n' → HasSaid (sends out) o o' n n' × IsRest out (rest.Ask q)
      go h = (done-all (action.Ask q ∷ queue) (ap sends (ended queue h.well)) h, (h.asks, h.closes))

  pub closes_last : (queue0 queue : List Action) (a : Action) (why : Cause) → queue0 ≡ a ∷ queue → a ≡ action.Close why → IsSpeaking out queue0 o o' n n' → HasSaid (sends out) o o' n n' × IsRest out (rest.Close why)
  closes_last queue0 queue a why e f h0 = go (subst (λ l. IsSpeaking out l o o' n n') (e ∙ ap (λ b. b ∷ queue) f) h0)
    where
      go : IsSpeaking out (action.Close why ∷ queue) o o' n n' → HasSaid (sends out) o o' n n' × IsRest out (rest.Close why)
      go h = (done-all (action.Close why ∷ queue) (ap sends (ended queue h.well)) h, (h.asks, h.closes))

  pub nothing_left : (queue0 : List Action) → queue0 ≡ [] → IsSpeaking out queue0 o o' n n' → HasSaid (sends out) o o' n n' × IsRest out rest.Nothing
  nothing_left queue0 e h0 = go (subst (λ l. IsSpeaking out l o o' n n') e h0)
    where
      go : IsSpeaking out [] o o' n n' → HasSaid (sends out) o o' n n' × IsRest out rest.Nothing
      go h = (done-all [] refl h, (h.asks, h.closes))
