-- After the transaction of a new session, keys stand for the state with the session.
use Rattle.std.proofs.Common.{◌≡◌, ◌≢◌, ℕ, ℤ, pos, negsuc, true, Bool, false, cond, List, [], length, Option, Some, None, refl, sym, ap, ◌∙◌, subst, arith}
use Rattle.std.specs.Prelude.{nat_eq, ◌≤ℤ◌, ◌<ℤ◌, ◌&&◌, int_lt}
use Rattle.std.specs.Int.{int_min}
use Rattle.std.specs.List.{list_all}
use Rattle.std.proofs.lemmas.Bool.Decides.{Decides-int_eq}
use Rattle.std.proofs.lemmas.Int.{ints}
use Rattle.ev_types.specs.Ranges.{Keys}
use Rattle.ev_types.specs.Store.{acts_applied, holds, last_revision, mod_of}
use Rattle.zk_model.specs.declared.layout.Layout.{Layout}
use Rattle.zk_model.specs.declared.connect.ConnectRequest.{ConnectRequest}
use Rattle.zk_model.specs.Limits.{max_timeout, min_timeout}
use Rattle.std.specs.FinMap.{get}
use Rattle.zk_model.specs.declared.node.Node.{Node}
use Rattle.zk_model.specs.Znodes.{num_children, owned}
use Rattle.zk_service.proofs.SessionMaps.{at-insert_other}
use Rattle.zx_base.proofs.Options.{none_some}
use Rattle.zk_transcript.specs.declared.transcript.TranscriptLine.{TranscriptLine}
use Rattle.zk_service.specs.declared.update.UpdateKind.TheVariants.{Session as NewSession}
use Rattle.zk_service.specs.States.{State, Session, IsSound, advanced, granted_timeout, new_session, session_at, with_session}
use Rattle.zk_transcript.specs.History.{connect, opening, updated}
use Rattle.zk_service.proofs.SoundSessions.{owns_none}
use Rattle.zx_base.specs.Maps.{Bytes}
use Rattle.zn_layout.specs.Changes.{last, update_acts}
use Rattle.zn_layout.specs.Fits.{ChangesFit, KeyFits}
use Rattle.zn_layout.specs.Keys.{Key, HeadKey, DataKey, CountsKey, SessionKey, LeaseKey, key_bytes}
use Rattle.zn_layout.specs.Records.{IsLeaseRec, session_value}
use Rattle.zn_layout.specs.StandsFor.{at, stored_of, is_counted, is_counted_in, CountsMean, IsNodes, NodesMean, StandsFor}
use Rattle.zn_layout.proofs.Sessions.{none_within}
use Rattle.zn_layout.proofs.Stands.{stands_after}
use Rattle.zn_view.proofs.Committing.{zxid-least}
use Rattle.zk_service.specs.declared.fresh.Fresh.{Fresh}
use Rattle.zp_laws.specs.Opening.{IsOpened}
use Rattle.zs_session.specs.Sessions.{first_life, new_session_changes, no_nodes, new_session_guards, new_session_txn}
use Rattle.zs_session.proofs.SessionKeys.{no_triggers-within, guarded-absent, nodes-none, opened, life-fits, nodes-fit}
use Rattle.zx_base.proofs.Lists.{no-length as length-none}

-- ---- the timeout

granted-within : (asked : ℤ) → (min_timeout ≤ℤ granted_timeout asked) × (granted_timeout asked ≤ℤ max_timeout)
granted-within asked = by_least (int_lt asked min_timeout) refl
  where
    by_most : (y : ℤ) → min_timeout ≤ℤ y → (b : Bool) → int_lt y max_timeout ≡ b → (min_timeout ≤ℤ cond b y max_timeout) × (cond b y max_timeout ≤ℤ max_timeout)
    by_most y h true e = (h, grind (arith, ints, e))
    by_most y h false e = (omega (arith, ints), omega (arith, ints))

    by_least : (b : Bool) → int_lt asked min_timeout ≡ b → (min_timeout ≤ℤ int_min max_timeout (cond b min_timeout asked)) × (int_min max_timeout (cond b min_timeout asked) ≤ℤ max_timeout)
    by_least true e = by_most min_timeout (omega (arith, ints)) (int_lt min_timeout max_timeout) refl
    by_least false e = by_most asked (grind (arith, ints, e)) (int_lt asked max_timeout) refl

pub first_life-within : (f : Fresh) (r : ConnectRequest) → length f.passwd ≡ 16 → IsLeaseRec (first_life f (granted_timeout r.timeout))
first_life-within f r long = record { least = (granted-within r.timeout).0; most = (granted-within r.timeout).1; attached = omega (arith, ints); attaches = omega (arith, ints); passwd = long }

-- ---- the guards

both_hold : (a b : Bool) → (a && (b && true)) ≡ true → (a ≡ true) × (b ≡ true)
both_hold true true h = (refl, refl)
both_hold true false h = absurd cc
both_hold false b h = absurd cc

-- ---- the changes

abbrev session_of : Fresh → ℤ → ℕ → ℤ → Session
session_of f timeout c z = record { passwd = f.passwd; timeout = timeout; layout = f.layout; connection = c; attached = z; lapsed = false }

abbrev fresh_of : ℕ → Bytes → Layout → Fresh
fresh_of n passwd layout = record { id = pos n; passwd = passwd; layout = layout }

opened-fits : (n : ℕ) (passwd : Bytes) (layout : Layout) (timeout z : ℤ) (c : ℕ) (s : State) → pos 1 ≤ℤ pos n → IsSound s → session_at (pos n) s ≡ None → IsLeaseRec (first_life (fresh_of n passwd layout) timeout)
    → ChangesFit z (new_session_changes (fresh_of n passwd layout) timeout) s (opened z s n (session_of (fresh_of n passwd layout) timeout c z))
opened-fits n passwd layout timeout z c s low sound closed within = record { each = each }
  where
    none : owned s.tree (pos n) ≡ []
    none = length-none (owned s.tree (pos n)) (owns_none s.sessions s.tree (pos n) sound low closed)

    nodes : IsNodes (record { value = session_value (no_nodes layout); revision = z; lease = pos 0 }) (record { layout = layout; paths = owned s.tree (pos n) })
    nodes = subst (λ (ps : List Bytes). IsNodes (record { value = session_value (no_nodes layout); revision = z; lease = pos 0 }) (record { layout = layout; paths = ps })) (sym none) (record { fits = none_within [] refl; value = refl; free = refl })

    next : State
    next = opened z s n (session_of (fresh_of n passwd layout) timeout c z)

    -- the owner of a node is an open session, and so another one than this
    apart : (p : Bytes) (node : Node) → get s.tree p ≡ Some node → node.owner ≢ pos n
    apart p node there same =
        let owner = sound.owners p node there (λ zero. absurd (omega (arith, ints, low, sym same ∙ zero))) in
        none_some (sym closed ∙ ap (λ (i : ℤ). session_at i s) (sym same) ∙ owner.1)

    counted_before : (p : Bytes) (o : Option Node) → get s.tree p ≡ o → is_counted_in next o ≡ is_counted_in s o
    counted_before p None there = refl
    counted_before p (Some node) there = ap is_counted (at-insert_other s.sessions (pos n) node.owner (session_of (fresh_of n passwd layout) timeout c z) (apart p node there))

    each : (k : Key) → KeyFits z (last (new_session_changes (fresh_of n passwd layout) timeout) k) k s (opened z s n (session_of (fresh_of n passwd layout) timeout c z))
    each HeadKey = λ o h. tt
    each (DataKey p) = λ o h. h
    each (CountsKey p) = λ o h. subst (λ (b : Bool). CountsMean (get s.tree p) (num_children s.tree p) b o) (sym (counted_before p (get s.tree p) refl)) h
    each (SessionKey m) = nodes-fit z s n (session_of (fresh_of n passwd layout) timeout c z) (record { value = session_value (no_nodes layout); lease = pos 0 }) m (nat_eq m n) refl nodes
    each (LeaseKey m) = life-fits z s n (session_of (fresh_of n passwd layout) timeout c z) _ m (nat_eq m n) refl (record { attaches = pos 1; fits = within; value = refl; attached = refl; leased = refl; alive = refl })

updated-opened : (before : List TranscriptLine) (s : State) (z : ℤ) (f : Fresh) (r : ConnectRequest) (c : ℕ) → opening c before ≡ Some f → connect c before ≡ Some r
    → advanced s z s.tree [] (with_session s f.id (session_of f (granted_timeout r.timeout) c z)) ≡ updated before s z (NewSession f.id c)
unfolding updated
updated-opened before s z f r c offered asked = sym (λ i. advanced s z s.tree [] (with_session s f.id (new_session (offered i) (asked i) c z)))

opens : (n : ℕ) (passwd : Bytes) (layout : Layout) (r : ConnectRequest) (before : List TranscriptLine) (c : ℕ) (m : Keys) (s : State) (z : ℤ) → pos 1 ≤ℤ pos n → length passwd ≡ 16 → opening c before ≡ Some (fresh_of n passwd layout) → connect c before ≡ Some r
    → IsSound s → StandsFor m s → list_all (holds m) (new_session_guards (pos n)) ≡ true → s.zxid <ℤ z → z ≤ℤ last_revision → IsOpened before s z (pos n) c m (new_session_txn (fresh_of n passwd layout) (granted_timeout r.timeout))
opens n passwd layout r before c m s z low long offered asked sound stands hold later most =
    let f = fresh_of n passwd layout in
    let timeout = granted_timeout r.timeout in
    let held = both_hold (holds m (record { key = key_bytes (LeaseKey n); mod_revision = pos 0 })) (holds m (record { key = key_bytes (SessionKey n); mod_revision = pos 0 })) hold in
    let absent : at m (SessionKey n) ≡ None = guarded-absent m s (SessionKey n) stands ((Decides-int_eq (mod_of (at m (SessionKey n))) (pos 0)).0 held.1) in
    let closed : session_at (pos n) s ≡ None = nodes-none (session_at (pos n) s) (owned s.tree (pos n)) (subst (λ o. NodesMean (session_at (pos n) s) (owned s.tree (pos n)) (stored_of o)) absent (stands.each (SessionKey n))) in
    let fits = opened-fits n passwd layout timeout z c s low sound closed (first_life-within f r long) in
    record {
      closed = closed;
      stands = subst (λ (t : State). StandsFor (acts_applied z m (update_acts (new_session_changes f timeout) [])) t) (updated-opened before s z f r c offered asked)
          (stands_after z (new_session_changes f timeout) [] m s (opened z s n (session_of f timeout c z)) (omega (arith, ints, zxid-least m s stands, later)) most no_triggers-within refl (record { zxid = refl; updates = refl; triggers = refl }) stands fits);
    }

by_number : (id : ℤ) (passwd : Bytes) (layout : Layout) (r : ConnectRequest) (before : List TranscriptLine) (c : ℕ) (m : Keys) (s : State) (z : ℤ) → pos 1 ≤ℤ id → length passwd ≡ 16 → opening c before ≡ Some (record { id = id; passwd = passwd; layout = layout }) → connect c before ≡ Some r
    → IsSound s → StandsFor m s → list_all (holds m) (new_session_guards id) ≡ true → s.zxid <ℤ z → z ≤ℤ last_revision → IsOpened before s z id c m (new_session_txn (record { id = id; passwd = passwd; layout = layout }) (granted_timeout r.timeout))
by_number (pos n) passwd layout r before c m s z low long offered asked sound stands hold later most = opens n passwd layout r before c m s z low long offered asked sound stands hold later most
by_number (negsuc n) passwd layout r before c m s z low long offered asked sound stands hold later most = absurd (omega (arith, ints, low))

pub new_session-commits : (f : Fresh) (r : ConnectRequest) (before : List TranscriptLine) (c : ℕ) (m : Keys) (s : State) (z : ℤ) → pos 1 ≤ℤ f.id → length f.passwd ≡ 16 → opening c before ≡ Some f → connect c before ≡ Some r
    → IsSound s → StandsFor m s → list_all (holds m) (new_session_guards f.id) ≡ true → s.zxid <ℤ z → z ≤ℤ last_revision → IsOpened before s z f.id c m (new_session_txn f (granted_timeout r.timeout))
new_session-commits f = by_number f.id f.passwd f.layout
