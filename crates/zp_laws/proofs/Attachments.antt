-- After the transaction of an attachment, keys stand for the state in which the session is attached anew.
use Rattle.std.proofs.Common.{◌≡◌, ◌≢◌, ℕ, ℤ, pos, negsuc, true, Bool, false, List, [], Option, Some, None, refl, sym, ap, ◌∙◌, subst, arith}
use Rattle.std.specs.Prelude.{nat_eq, ◌≤ℤ◌, ◌<ℤ◌, ◌&&◌, ◌+ℤ◌, if◌then◌else◌}
use Rattle.std.specs.List.{list_all}
use Rattle.std.specs.Ordering.{int_eq}
use Rattle.std.specs.FinMap.{get}
use Rattle.std.proofs.lemmas.Bool.{false≢true}
use Rattle.std.proofs.lemmas.Bool.Decides.{Decides-int_eq}
use Rattle.std.proofs.lemmas.Int.{ints}
use Rattle.ev_types.specs.declared.answer.Kv.{Kv}
use Rattle.ev_types.specs.Ranges.{Keys}
use Rattle.ev_types.specs.Store.{acts_applied, holds, last_revision, mod_of}
use Rattle.zk_model.specs.declared.node.Node.{Node}
use Rattle.zk_model.specs.Limits.{max_long}
use Rattle.zk_model.specs.Znodes.{num_children}
use Rattle.zk_transcript.specs.declared.transcript.TranscriptLine.{TranscriptLine}
use Rattle.zk_service.specs.declared.update.UpdateKind.TheVariants.{Attach}
use Rattle.zk_service.specs.States.{State, Session, advanced, attached_anew, session_at}
use Rattle.zk_service.proofs.SessionMaps.{at-insert_same, at-insert_other}
use Rattle.zk_transcript.specs.History.{updated}
use Rattle.zn_layout.specs.declared.record.LeaseRec.{LeaseRec}
use Rattle.zn_layout.specs.Changes.{last, update_acts}
use Rattle.zn_layout.specs.Fits.{ChangesFit, KeyFits}
use Rattle.zn_layout.specs.Keys.{Key, HeadKey, DataKey, CountsKey, SessionKey, LeaseKey, key_bytes}
use Rattle.zn_layout.specs.Records.{IsLeaseRec, lease_value}
use Rattle.zn_layout.specs.StandsFor.{at, stored_of, is_counted, is_counted_in, life_record, CountsMean, LifeMeans, StandsFor}
use Rattle.zn_layout.proofs.Leases.{lease_value-injective}
use Rattle.zn_layout.proofs.Stands.{stands_after}
use Rattle.zn_view.proofs.Committing.{zxid-least}
use Rattle.zp_laws.specs.Opening.{IsAttachedAnew}
use Rattle.zs_session.specs.Sessions.{attach_changes, attach_guards, attach_txn, life_key, next_attach, next_life}
use Rattle.zs_session.proofs.SessionKeys.{no_triggers-within, guarded-there, life-found, opened, life-fits, nodes-stay}

-- ---- the count

next-within : (n : ℤ) (b : Bool) → int_eq n max_long ≡ b → pos 1 ≤ℤ n → n ≤ℤ max_long → (pos 1 ≤ℤ (if b then pos 1 else n +ℤ pos 1)) × ((if b then pos 1 else n +ℤ pos 1) ≤ℤ max_long)
next-within n true e low high = (omega (arith, ints), omega (arith, ints))
next-within n false e low high =
    let apart : n ≢ max_long = λ h. let t : int_eq n max_long ≡ true = (Decides-int_eq n max_long).1 h in cc in
    (omega (arith, ints, low), omega (arith, ints, low, high, apart))

next_life-within : (life : LeaseRec) → IsLeaseRec life → IsLeaseRec (next_life life)
next_life-within life within =
    let next = next-within life.attaches (int_eq life.attaches max_long) refl within.attached within.attaches in
    record { least = within.least; most = within.most; attached = next.0; attaches = next.1; passwd = within.passwd }

-- ---- the changes

abbrev moved : Session → ℕ → ℤ → Session
moved old c z = record old { connection = c; attached = z }

attached-fits : (n : ℕ) (old : Session) (attaches z : ℤ) (c : ℕ) (s : State) → session_at (pos n) s ≡ Some old → old.lapsed ≡ false → IsLeaseRec (life_record old attaches)
    → ChangesFit z (attach_changes (pos n) (life_record old attaches)) s (opened z s n (moved old c z))
attached-fits n old attaches z c s was alive within = record { each = each }
  where
    next : State
    next = opened z s n (moved old c z)

    -- the session keeps its layout, and with it the counts of its nodes their records
    counted_at : (i : ℤ) → is_counted (session_at i next) ≡ is_counted (session_at i s)
    counted_at i = elim (int_eq i (pos n)) as (λ b. int_eq i (pos n) ≡ b → is_counted (session_at i next) ≡ is_counted (session_at i s)) [
      | true ↦ λ h.
          let e = (Decides-int_eq i (pos n)).0 h in
          ap (λ j. is_counted (session_at j next)) e ∙ ap is_counted (at-insert_same s.sessions (pos n) (moved old c z)) ∙ ap is_counted (sym was) ∙ ap (λ j. is_counted (session_at j s)) (sym e)
      | false ↦ λ h. ap is_counted (at-insert_other s.sessions (pos n) i (moved old c z) (λ e. false≢true (sym h ∙ (Decides-int_eq i (pos n)).1 e)))
    ] refl

    counted_in : (o : Option Node) → is_counted_in next o ≡ is_counted_in s o
    counted_in None = refl
    counted_in (Some node) = counted_at node.owner

    each : (k : Key) → KeyFits z (last (attach_changes (pos n) (life_record old attaches)) k) k s (opened z s n (moved old c z))
    each HeadKey = λ o h. tt
    each (DataKey p) = λ o h. h
    each (CountsKey p) = λ o h. subst (λ (b : Bool). CountsMean (get s.tree p) (num_children s.tree p) b o) (sym (counted_in (get s.tree p))) h
    each (SessionKey m) = nodes-stay z s n (moved old c z) old refl m (nat_eq m n) refl was
    each (LeaseKey m) = life-fits z s n (moved old c z) (record { value = lease_value (next_life (life_record old attaches)); lease = pos n }) m (nat_eq m n) refl
        (record { attaches = next_attach attaches; fits = next_life-within (life_record old attaches) within; value = refl; attached = refl; leased = refl; alive = alive })

updated-attached : (before : List TranscriptLine) (s : State) (z : ℤ) (n c : ℕ) (old : Session) → session_at (pos n) s ≡ Some old → opened z s n (moved old c z) ≡ updated before s z (Attach (pos n) c)
unfolding updated
updated-attached before s z n c old was = sym (ap (λ (o : Option Session). advanced s z s.tree [] (attached_anew s z (pos n) c o)) was)

one_holds : (a : Bool) → (a && true) ≡ true → a ≡ true
one_holds true h = refl
one_holds false h = h

abbrev WasSeen : ℤ → ℤ → LeaseRec → Keys → Type 0
WasSeen id seen life m = (kv : Kv) → at m (life_key id) ≡ Some kv → kv.mod_revision ≡ seen → kv.value ≡ lease_value life

attaches-anew : (n : ℕ) (seen : ℤ) (life : LeaseRec) (before : List TranscriptLine) (c : ℕ) (m : Keys) (s : State) (z : ℤ) → pos 1 ≤ℤ seen → IsLeaseRec life → StandsFor m s → WasSeen (pos n) seen life m
    → list_all (holds m) (attach_guards (pos n) seen) ≡ true → s.zxid <ℤ z → z ≤ℤ last_revision → IsAttachedAnew before s z (pos n) c m (attach_txn (pos n) seen life) seen life
attaches-anew n seen life before c m s z low within stands was hold later most =
    let held = one_holds (holds m (record { key = key_bytes (LeaseKey n); mod_revision = seen })) hold in
    let there = guarded-there (at m (LeaseKey n)) seen low ((Decides-int_eq (mod_of (at m (LeaseKey n))) seen).0 held) in
    let found = life-found n (session_at (pos n) s) (record { value = (there.kv).value; revision = (there.kv).mod_revision; lease = (there.kv).lease })
    (subst (λ (o : Option Kv). LifeMeans n (session_at (pos n) s) (stored_of o)) there.is (stands.each (LeaseKey n))) in
    let old = found.old in
    let is = found.is in
    let same : life_record old is.attaches ≡ life = lease_value-injective (life_record old is.attaches) life is.fits within (sym is.value ∙ was there.kv there.is there.revision_is) in
    let fits : ChangesFit z (attach_changes (pos n) life) s (opened z s n (moved old c z)) =
    subst (λ (l : LeaseRec). ChangesFit z (attach_changes (pos n) l) s (opened z s n (moved old c z))) same (attached-fits n old is.attaches z c s found.there is.alive is.fits) in
    record {
      session = old;
      there = found.there;
      live = is.alive;
      attached = is.attached ∙ there.revision_is;
      passwd = ap (λ (l : LeaseRec). l.passwd) same;
      timeout = ap (λ (l : LeaseRec). l.timeout) same;
      stands = subst (λ (t : State). StandsFor (acts_applied z m (update_acts (attach_changes (pos n) life) [])) t) (updated-attached before s z n c old found.there)
          (stands_after z (attach_changes (pos n) life) [] m s (opened z s n (moved old c z)) (omega (arith, ints, zxid-least m s stands, later)) most no_triggers-within refl (record { zxid = refl; updates = refl; triggers = refl }) stands fits);
    }

pub session-attached : (id seen : ℤ) (life : LeaseRec) (before : List TranscriptLine) (c : ℕ) (m : Keys) (s : State) (z : ℤ) → pos 1 ≤ℤ id → pos 1 ≤ℤ seen → IsLeaseRec life → StandsFor m s → WasSeen id seen life m
    → list_all (holds m) (attach_guards id seen) ≡ true → s.zxid <ℤ z → z ≤ℤ last_revision → IsAttachedAnew before s z id c m (attach_txn id seen life) seen life
session-attached (pos n) seen life before c m s z least low within stands was hold later most = attaches-anew n seen life before c m s z low within stands was hold later most
session-attached (negsuc n) seen life before c m s z least low within stands was hold later most = absurd (omega (arith, ints, least))
