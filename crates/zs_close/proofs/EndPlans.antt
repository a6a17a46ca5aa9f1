-- A plan with the operations of a session's end carries the end out, in each sound state whose keys have what the view saw.
use Rattle.std.proofs.Common.{◌≡◌, ℕ, ℤ, pos, ◌≤◌, Bool, true, false, length, List, [], ◌∷◌, ◌++◌, Option, Some, None, refl, sym, ap, ◌∙◌, subst, inl, inr, arith}
use Rattle.std.specs.Prelude.{◌≤ℤ◌, nat_abs, if◌then◌else◌, All, Contains, IsTrue}
use Rattle.std.specs.List.Sorted.{IsStrictlySortedBy}
use Rattle.std.specs.Ordering.{nat_cmp}
use Rattle.std.specs.Cmp.Lexicographic.{slice_cmp}
use Rattle.std.specs.FinMap.{get}
use Rattle.std.proofs.lemmas.Int.{ints}
use Rattle.std.proofs.lemmas.List.{map-append}
use Rattle.std.proofs.lemmas.List.Elements.{All-weaker, All-contains_itself}
use Rattle.ev_types.specs.declared.answer.Kv.{Kv}
use Rattle.ev_types.specs.declared.ask.Act.{Act}
use Rattle.ev_types.specs.Ranges.{Keys}
use Rattle.ev_types.specs.Reads.{read_key}
use Rattle.ev_types.specs.Store.{acts_applied, last_revision}
use Rattle.zk_model.specs.declared.node.Node.{Node}
use Rattle.zk_model.specs.declared.reply.Body.TheVariants as body
use Rattle.zk_model.specs.declared.reply.Reply.TheVariants as reply
use Rattle.zk_model.specs.Limits.{max_owned}
use Rattle.zk_model.specs.Paths.{is_path}
use Rattle.zk_model.specs.Znodes.{num_children, owned}
use Rattle.zk_service.specs.States.{State, Session, IsSound, session_at, session_ended}
use Rattle.zx_base.specs.Maps.{Bytes}
use Rattle.zn_layout.specs.declared.record.CountRec.{CountRec}
use Rattle.zn_layout.specs.declared.record.SessionRec.{SessionRec}
use Rattle.zn_layout.specs.Changes.{KeyChange, act_of, acts_of, head_put, update_acts}
use Rattle.zn_layout.specs.Fits.{ChangesFit}
use Rattle.zn_layout.specs.Keys.{Key, HeadKey, CountsKey, SessionKey, LeaseKey, key_bytes}
use Rattle.zn_layout.specs.Records.{IsHeadRec}
use Rattle.zn_layout.specs.StandsFor.{stored_of, is_counted_in, CountsMean, NodesMean, LifeMeans, counts_record, nodes_record, StandsFor}
use Rattle.zn_layout.proofs.Counted.{plain-counted}
use Rattle.zn_layout.proofs.Keys.{key_bytes-injective}
use Rattle.zn_layout.proofs.ListRecords.{session_value-injective}
use Rattle.zn_layout.proofs.Stands.{stands_after}
use Rattle.zn_view.specs.declared.plan.Plan.{Plan}
use Rattle.zn_view.specs.Asks.{guards_of, again_of, narrowed, picked}
use Rattle.zn_view.specs.Lookups.{sees, IsNodesIn}
use Rattle.zn_view.specs.Seen.{View}
use Rattle.zn_view.specs.Views.{Agrees, MayCommit}
use Rattle.zn_view.proofs.AsSeen.{agrees-seen, commits-as_seen}
use Rattle.zn_view.proofs.Members.{In, contains_in, in_mapped}
use Rattle.zn_view.proofs.Narrowing.{narrowed-commits, picked-told}
use Rattle.zn_view.proofs.Sizes.{again-present, owned-most}
use Rattle.zs_close.specs.Closing.{AreWritesAfter, IsTold, TellsCounts, TellsCountsOf, IsEndPlan}
use Rattle.zs_close.specs.Ending.{end_changes, end_triggers, parents}
use Rattle.zs_close.specs.Wanting.{end_keys, read_keys}
use Rattle.zs_close.proofs.EndFits.{end-fits}
use Rattle.zs_close.proofs.KeysRead.{in_counts}
use Rattle.zs_close.proofs.TriggerBounds.{end_triggers-within}
use Rattle.zs_close.proofs.Written.{written-head}

-- ---- the plan that the code makes

pub plan-made : (alive : Bool) (id : ℤ) (v : View) (nodes : SessionRec) (p : Plan) (acts : List Act) → All (λ q. IsTrue (is_path q)) nodes.paths → length nodes.paths ≤ max_owned nodes.layout
    → p.guards ≡ guards_of (picked v (read_keys id nodes.paths)) → p.again ≡ again_of (picked v (read_keys id nodes.paths))
    → p.success ≡ (acts ++ act_of (head_put p.triggers) ∷ []) ++ read_key (key_bytes HeadKey) ∷ [] → p.draft ≡ reply.Good body.Empty → p.triggers ≡ end_triggers nodes.paths
    → AreWritesAfter [] acts → ((counts : Bytes → Option CountRec) → TellsCounts v counts (parents nodes.paths) → acts ≡ acts_of (end_changes alive id counts nodes)) → IsEndPlan alive id v nodes p
plan-made alive id v nodes p acts valid few guards again success draft triggers written made = record {
  guards = guards;
  again = again;
  success = λ counts tells. updates (end_changes alive id counts nodes) (made counts tells);
  shows = (acts ++ act_of (head_put p.triggers) ∷ [], success);
  writes = record {
    changes = written.0;
    acts = updates written.0 written.2;
    leases = written.1;
    triggers = subst IsHeadRec (sym triggers) (end_triggers-within nodes.paths (omega (arith, few, owned-most nodes.layout)) valid);
    reads = again-present p.again;
  };
  draft = draft;
  triggers = triggers;
}
  where
    updates : (cs : List KeyChange) → acts ≡ acts_of cs → p.success ≡ update_acts cs p.triggers
    updates cs is =
        success
        ∙ ap (λ (l : List Act). (l ++ act_of (head_put p.triggers) ∷ []) ++ read_key (key_bytes HeadKey) ∷ []) is
        ∙ ap (λ (l : List Act). l ++ read_key (key_bytes HeadKey) ∷ []) (sym (map-append act_of cs (head_put p.triggers ∷ [])))

-- ---- what the view's keys mean

not_head : (k : Key) → (k ≡ HeadKey → ⊥) → key_bytes k ≡ key_bytes HeadKey → ⊥
not_head k apart e = apart (key_bytes-injective k HeadKey e)

pub life-not_head : (n : ℕ) → key_bytes (LeaseKey n) ≡ key_bytes HeadKey → ⊥
life-not_head n = not_head (LeaseKey n) (λ e. cc)

-- the keys that the end of a session reads, but for the head, have what was seen
abbrev pub AreSeenFor : View → ℤ → List Bytes → Keys → Type 0
AreSeenFor v id ps m = (k : Key) (o : Option Kv) → In k (end_keys id ps) → (k ≡ HeadKey → ⊥) → sees v k ≡ Some o → get m (key_bytes k) ≡ o

pub agrees-for : (v : View) (id : ℤ) (ps : List Bytes) (m : Keys) → Agrees v m → AreSeenFor v id ps m
agrees-for v id ps m agrees k o inside apart saw = agrees-seen v m (key_bytes k) o agrees saw

pub commits-for : (p : Plan) (v : View) (id : ℤ) (ps : List Bytes) (m : Keys) → p.guards ≡ guards_of (picked v (read_keys id ps)) → MayCommit p v m → AreSeenFor v id ps m
commits-for p v id ps m guards may k o inside apart saw =
    commits-as_seen p (narrowed v (read_keys id ps)) m guards (narrowed-commits p v (read_keys id ps) m guards may) (key_bytes k) o (not_head k apart)
    (picked-told v (read_keys id ps) (key_bytes k) o (in_mapped key_bytes k (end_keys id ps) inside) saw)

pub numbered : (id : ℤ) → pos 1 ≤ℤ id → pos (nat_abs id) ≡ id
numbered id real = omega (arith, ints)

-- the session is open, and these are its nodes
pub record IsOpenWith (o : Option Session) (own : List Bytes) (nodes : SessionRec) : Type 0 where
  pub session : Session
  pub is_open : o ≡ Some session
  pub owns : nodes_record session own ≡ nodes

open_with : (o : Option Session) (own : List Bytes) (nodes : SessionRec) (kv : Kv) → IsNodesIn kv nodes → NodesMean o own (stored_of (Some kv)) → IsOpenWith o own nodes
open_with None own nodes kv is h = absurd h
open_with (Some x) own nodes kv is h = record { session = x; is_open = refl; owns = session_value-injective (nodes_record x own) nodes h.fits is.0 (sym h.value ∙ is.1) }

-- the counts in the record of a node, where it has one
abbrev counts_of : Bool → ℕ → Node → Option CountRec
counts_of b k n = if b then Some (counts_record n k) else None

abbrev counts_at : Option Node → ℕ → Bool → Option CountRec
counts_at None k b = None
counts_at (Some n) k b = counts_of b k n

-- the records of the counts of a state's nodes
abbrev pub counts_in : State → Bytes → Option CountRec
counts_in s q = counts_at (get s.tree q) (num_children s.tree q) (is_counted_in s (get s.tree q))

told_as : (n : Option Node) (k : ℕ) (b : Bool) (o : Option Kv) → CountsMean n k b (stored_of o) → IsTold o (counts_at n k b)
told_as None k b None h = tt
told_as None k b (Some kv) h = absurd h
told_as (Some n) k true None h = absurd h
told_as (Some n) k true (Some kv) h = (h.fits, h.value)
told_as (Some n) k false None h = tt
told_as (Some n) k false (Some kv) h = absurd h

-- a node that no session owns has one
pub plain-told : (s : State) → IsSound s → (q : Bytes) (n : Node) → get s.tree q ≡ Some n → n.owner ≡ pos 0 → counts_in s q ≡ Some (counts_record n (num_children s.tree q))
plain-told s sound q n there plain =
    ap (λ (x : Option Node). counts_at x (num_children s.tree q) (is_counted_in s x)) there ∙ ap (counts_at (Some n) (num_children s.tree q)) (plain-counted s n sound plain)

module _ (v : View) (id : ℤ) (real : pos 1 ≤ℤ id) (m : Keys) (s : State) (stands : StandsFor m s) (ps : List Bytes) (as_seen : AreSeenFor v id ps m) where
  pub nodes-mean : (o : Option Kv) → sees v (SessionKey (nat_abs id)) ≡ Some o → NodesMean (session_at id s) (owned s.tree id) (stored_of o)
  nodes-mean o saw =
      subst (λ (i : ℤ). NodesMean (session_at i s) (owned s.tree i) (stored_of o)) (numbered id real)
      (subst (λ (x : Option Kv). NodesMean (session_at (pos (nat_abs id)) s) (owned s.tree (pos (nat_abs id))) (stored_of x)) (as_seen (SessionKey (nat_abs id)) o (inr (inr (inl refl))) (λ e. cc) saw) (stands.each (SessionKey (nat_abs id))))

  pub life-means : (o : Option Kv) → sees v (LeaseKey (nat_abs id)) ≡ Some o → LifeMeans (nat_abs id) (session_at id s) (stored_of o)
  life-means o saw =
      subst (λ (i : ℤ). LifeMeans (nat_abs id) (session_at i s) (stored_of o)) (numbered id real)
      (subst (λ (x : Option Kv). LifeMeans (nat_abs id) (session_at (pos (nat_abs id)) s) (stored_of x)) (as_seen (LeaseKey (nat_abs id)) o (inr (inl refl)) (λ e. cc) saw) (stands.each (LeaseKey (nat_abs id))))

  counts-told-of : (q : Bytes) → Contains (parents ps) q → TellsCountsOf v (counts_in s) q
  counts-told-of q has o saw = told_as (get s.tree q) (num_children s.tree q) (is_counted_in s (get s.tree q)) o
      (subst (λ (x : Option Kv). CountsMean (get s.tree q) (num_children s.tree q) (is_counted_in s (get s.tree q)) (stored_of x)) (as_seen (CountsKey q) o (inr (inr (inr (in_counts q (parents ps) (contains_in q (parents ps) has))))) (λ e. cc) saw) (stands.each (CountsKey q)))

  pub counts-told : TellsCounts v (counts_in s) (parents ps)
  counts-told = All-weaker (Contains (parents ps)) (TellsCountsOf v (counts_in s)) counts-told-of (parents ps) (All-contains_itself (parents ps))

  module _ (nodes : SessionRec) (listed : nodes.paths ≡ ps) (kv : Kv) (saw : sees v (SessionKey (nat_abs id)) ≡ Some (Some kv)) (found : IsNodesIn kv nodes) where
    pub session-open : IsOpenWith (session_at id s) (owned s.tree id) nodes
    session-open = open_with (session_at id s) (owned s.tree id) nodes kv found (nodes-mean (Some kv) saw)

    -- in a sound state no session owns more nodes than it may
    pub nodes-few : IsSound s → length nodes.paths ≤ max_owned nodes.layout
    nodes-few sound = subst (λ (r : SessionRec). length r.paths ≤ max_owned r.layout) (session-open).owns (sound.limited id (session-open).session (session-open).is_open)

    owns_paths : owned s.tree id ≡ nodes.paths
    owns_paths = ap (λ (r : SessionRec). r.paths) (session-open).owns

    module _ (sound : IsSound s) (alive : Bool) (lapsed : alive ≡ false → (x : Session) → session_at id s ≡ Some x → x.lapsed ≡ true) where
      pub ended-fits : (z : ℤ) → ChangesFit z (end_changes alive id (counts_in s) nodes) s (session_ended s z id)
      ended-fits z = subst (λ (r : SessionRec). ChangesFit z (end_changes alive id (counts_in s) r) s (session_ended s z id)) (session-open).owns
          (end-fits s z id alive (counts_in s) sound real (plain-told s sound) (session-open).session (session-open).is_open
          (subst (IsStrictlySortedBy (slice_cmp nat_cmp)) (sym owns_paths) found.0.rising) lapsed)

      module _ (p : Plan) (plan : IsEndPlan alive id v nodes p) (z : ℤ) where
        pub ended-triggers : p.triggers ≡ (session_ended s z id).triggers
        ended-triggers = plan.triggers ∙ ap end_triggers (sym owns_paths)

        pub ended-carries : pos 1 ≤ℤ z → z ≤ℤ last_revision → StandsFor (acts_applied z m p.success) (session_ended s z id)
        ended-carries low high =
            subst (λ (acts : List Act). StandsFor (acts_applied z m acts) (session_ended s z id)) (sym (plan.success (counts_in s) (subst (λ (l : List Bytes). TellsCounts v (counts_in s) (parents l)) (sym listed) counts-told)))
            (stands_after z (end_changes alive id (counts_in s) nodes) p.triggers m s (session_ended s z id) low high
            (subst IsHeadRec (sym plan.triggers) (end_triggers-within nodes.paths (omega (arith, nodes-few sound, owned-most nodes.layout)) found.0.valid))
            (written-head alive id (counts_in s) nodes)
            (record { zxid = refl; updates = refl; triggers = sym ended-triggers })
            stands (ended-fits z))
