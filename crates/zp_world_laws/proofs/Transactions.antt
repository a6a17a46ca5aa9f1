-- What the store does where it carries out an ask.
use Rattle.std.proofs.Common.{◌≡◌, List, [], ◌∷◌, refl, sym, ap, ◌∙◌, arith, Bool, true, false, ℤ, inl, inr}
use Rattle.std.specs.Prelude.{Some, None, ◌⊎◌, ◌<ℤ◌, ◌||◌, if◌then◌else◌}
use Rattle.std.proofs.lemmas.Int.{ints}
use Rattle.ev_types.specs.Denials.{carry, is_denied, is_full_store}
use Rattle.ev_types.specs.Ranges.{Keys}
use Rattle.ev_types.specs.Store.{Store, Change, acts_from, carried_out, chosen, grown, last_revision, present, revision, succeeds, txn_done, worked}
use Rattle.ev_types.specs.declared.answer.ActAns.{ActAns}
use Rattle.ev_types.specs.declared.answer.Answer.{Answer}
use Rattle.ev_types.specs.declared.answer.Answer.TheVariants as answer
use Rattle.ev_types.specs.declared.ask.Act.{Act}
use Rattle.ev_types.specs.declared.ask.Act.TheVariants as act
use Rattle.ev_types.specs.declared.ask.Ask.{Ask}
use Rattle.ev_types.specs.declared.ask.Ask.TheVariants as ask
use Rattle.ev_types.specs.declared.ask.TxnReq.{TxnReq}
use Rattle.zp_world_laws.specs.Serving.{only_reads}

allowed : (d : Bool) (x y : Store × Answer) → (if d then None else Some x) ≡ Some y → (d ≡ false) × (x ≡ y)
allowed true x y h = absurd (cc)
allowed false x y h = (refl, cc)

or-last : (a b : Bool) → (a || b) ≡ false → b ≡ false
or-last true b h = absurd (cc)
or-last false b h = h

-- where something changes there was room for a revision more
abbrev HasRoom : Store → List Change → Type 0
HasRoom s cs = (grown s cs ≡ s) ⊎ (revision s <ℤ last_revision)

not-full : (s : Store) (cs : List Change) → is_full_store s cs ≡ false → HasRoom s cs
not-full s [] h = inl refl
not-full s (c ∷ cs) h = inr (grind (arith, ints, h))

txn-room : (s : Store) (t : TxnReq) → is_denied s (ask.Txn t) ≡ false → is_full_store s (worked s (chosen (succeeds s t) t)).changes ≡ false
unfolding is_denied
txn-room s t h = or-last _ (is_full_store s (worked s (chosen (succeeds s t) t)).changes) h

pub record IsTxnDone (s u : Store) (t : TxnReq) : Type 0 where
  pub store : u ≡ grown s (worked s (chosen (succeeds s t) t)).changes
  pub room : (u ≡ s) ⊎ (revision s <ℤ last_revision)

pub txn-carried : (s u : Store) (t : TxnReq) (a : Answer) → carry s (ask.Txn t) ≡ Some (u, a) → IsTxnDone s u t
unfolding carry carried_out txn_done
txn-carried s u t a h =
    let c = allowed (is_denied s (ask.Txn t)) _ (u, a) h in
    let e : u ≡ grown s (worked s (chosen (succeeds s t) t)).changes = sym (ap (λ (x : Store × Answer). x.0) c.1) in
    record {
      store = e;
      room = elim (not-full s (worked s (chosen (succeeds s t) t)).changes (txn-room s t c.0)) [ inl same ↦ inl (e ∙ same) | inr room ↦ inr room ];
    }

pub txn-answered : (s u : Store) (t : TxnReq) (a : Answer) → carry s (ask.Txn t) ≡ Some (u, a) → (parts : List ActAns) × (a ≡ answer.Txn (revision u) (succeeds s t) parts)
unfolding carry carried_out txn_done
txn-answered s u t a h =
    let c = allowed (is_denied s (ask.Txn t)) _ (u, a) h in
    let w = worked s (chosen (succeeds s t) t) in
    (w.parts, sym (ap (λ (x : Store × Answer). x.1) c.1) ∙ ap (λ (v : Store). answer.Txn (revision v) (succeeds s t) w.parts) (ap (λ (x : Store × Answer). x.0) c.1))

-- ---- what only reads leaves the store

reads-nothing : (s : Store) (r : ℤ) (m : Keys) (acts : List Act) → only_reads acts ≡ true → (acts_from s r m acts).changes ≡ []
reads-nothing s r m [] h = refl
reads-nothing s r m (act.Put k v lease ∷ acts) h = absurd (cc)
reads-nothing s r m (act.Delete k ∷ acts) h = absurd (cc)
reads-nothing s r m (act.Range q ∷ acts) h = reads-nothing s r m acts h

worked-nothing : (s : Store) (acts : List Act) → only_reads acts ≡ true → grown s (worked s acts).changes ≡ s
unfolding worked
worked-nothing s acts h = ap (grown s) (reads-nothing s _ (present s) acts h)

-- the list that is carried out only reads
pub txn-reads : (s u : Store) (t : TxnReq) (a : Answer) (b : Bool) → carry s (ask.Txn t) ≡ Some (u, a) → succeeds s t ≡ b → only_reads (chosen b t) ≡ true → u ≡ s
txn-reads s u t a b h e reads = (txn-carried s u t a h).store ∙ ap (λ c. grown s (worked s (chosen c t)).changes) e ∙ worked-nothing s (chosen b t) reads

-- an ask that is no transaction
abbrev pub IsNoTxn : Ask → Type 0
IsNoTxn (ask.Txn t) = ⊥
IsNoTxn _ = Unit {0}

pub other-carried : (s u : Store) (q : Ask) (a : Answer) → IsNoTxn q → carry s q ≡ Some (u, a) → u.revisions ≡ s.revisions
unfolding carry carried_out
other-carried s u (ask.Txn t) a n h = absurd n
other-carried s u (ask.Range q) a n h = let c = allowed (is_denied s (ask.Range q)) _ (u, a) h in ap (λ (x : Store × Answer). x.0.revisions) (sym c.1)
other-carried s u (ask.Grant id ttl) a n h = let c = allowed (is_denied s (ask.Grant id ttl)) _ (u, a) h in ap (λ (x : Store × Answer). x.0.revisions) (sym c.1)
other-carried s u (ask.Alive id) a n h = let c = allowed (is_denied s (ask.Alive id)) _ (u, a) h in ap (λ (x : Store × Answer). x.0.revisions) (sym c.1)
