-- An ask is denied exactly where a denial is named, and is otherwise carried out.
use Rattle.std.proofs.Common.{◌≡◌, ◌||◌, Bool, true, false, cond, ℤ, List, [], ◌∷◌, length, Option, Some, None, Result, Err, refl, sym, ap, ◌∙◌, subst, IfErr}
use Rattle.std.specs.Prelude.{is_some}
use Rattle.std.specs.List.{list_any}
use Rattle.std.specs.Option.{option_or, option_map}
use Rattle.std.specs.FinMap.{get, insert}
use Rattle.ev_types.specs.declared.ask.Act.{Act}
use Rattle.ev_types.specs.declared.ask.Act.TheVariants as act
use Rattle.ev_types.specs.declared.ask.TxnReq.{TxnReq}
use Rattle.ev_types.specs.declared.ask.RangeReq.{RangeReq}
use Rattle.ev_types.specs.declared.ask.Ask.{Ask}
use Rattle.ev_types.specs.declared.ask.Ask.TheVariants as ask
use Rattle.ev_types.specs.declared.answer.Answer.TheVariants as answer
use Rattle.ev_types.specs.declared.answer.ActAns.{ActAns}
use Rattle.ev_types.specs.declared.answer.RangeAns.{RangeAns}
use Rattle.ev_types.specs.Ranges.{found}
use Rattle.ev_types.specs.Store.{Store, Change, revision, worked, grown, succeeds, chosen, carried_out, txn_done, looked_at, present, seconds}
use Rattle.ev_types.specs.Denials.{has_lease, names_missing, writes, puts, is_long, lacks_lease, is_future, is_compacted, writes_twice, has_long_list, is_full_store, chosen_acts, is_denied, carry}
use Rattle.ev_store.specs.declared.fault.Denied.{Denied}
use Rattle.ev_store.specs.declared.fault.Denied.TheVariants as denied
use Rattle.ev_store.specs.declared.fault.StoreFault.{StoreFault}
use Rattle.ev_store.specs.declared.fault.StoreFault.TheVariants as fault
use Rattle.ev_store.specs.FirstDenial.{too_many, written_again, first_again, twice, range_denial, act_denial, acts_denial, full, long_list, form_denial, txn_denial, first_denial, Names}

-- ---- the first of several

pub or-none : {A : Type 0} (a b : Option A) → a ≡ None → option_or a b ≡ b
or-none a b e = ap (λ o. option_or o b) e

or-there : {A : Type 0} (a b : Option A) → is_some (option_or a b) ≡ (is_some a || is_some b)
or-there None b = refl
or-there (Some x) b = refl

if-there : {A : Type 0} (b : Bool) (x : A) → is_some (cond b (Some x) None) ≡ b
if-there true x = refl
if-there false x = refl

map-there : {A B : Type 0} (f : A → B) (o : Option A) → is_some (option_map f o) ≡ is_some o
map-there f None = refl
map-there f (Some x) = refl

-- ---- each test names a denial exactly where it denies

again-there : (acts : List Act) → is_some (first_again acts) ≡ writes_twice acts
again-there [] = refl
again-there (act.Put k v lease ∷ acts) = or-there (written_again (act.Put k v lease) acts) (first_again acts) ∙ (λ i. if-there (list_any (writes k) acts) k i || again-there acts i)
again-there (act.Delete k ∷ acts) = or-there (written_again (act.Delete k) acts) (first_again acts) ∙ (λ i. if-there (list_any (puts k) acts) k i || again-there acts i)
again-there (act.Range q ∷ acts) = again-there acts

twice-there : (acts : List Act) → is_some (twice acts) ≡ writes_twice acts
twice-there acts = map-there denied.Twice (first_again acts) ∙ again-there acts

one_of_two : (b c : Bool) (d e : Denied) → is_some (cond b (Some d) (cond c (Some e) None)) ≡ (b || c)
one_of_two true c d e = refl
one_of_two false c d e = if-there c e

range-there : (s : Store) (q : RangeReq) → is_some (range_denial s q) ≡ (is_future s q.revision || is_compacted s q.revision)
range-there s q = one_of_two (is_future s q.revision) (is_compacted s q.revision) (denied.Future q.revision (revision s)) (denied.Compacted q.revision s.floor)

act-there : (s : Store) (a : Act) → is_some (act_denial s a) ≡ names_missing s a
act-there s (act.Put k v lease) = if-there (lacks_lease s lease) (denied.NoLease lease)
act-there s (act.Delete k) = refl
act-there s (act.Range q) = range-there s q

acts-there : (s : Store) (acts : List Act) → is_some (acts_denial s acts) ≡ list_any (names_missing s) acts
acts-there s [] = refl
acts-there s (a ∷ acts) = or-there (act_denial s a) (acts_denial s acts) ∙ (λ i. act-there s a i || acts-there s acts i)

regroup : (a b c : Bool) → (a || (b || c)) ≡ (a || b || c)
regroup true b c = refl
regroup false b c = refl

many-there : {A : Type 0} (xs : List A) → is_some (too_many (length xs)) ≡ is_long xs
many-there xs = if-there (is_long xs) (denied.TooMany (length xs))

long-there : (t : TxnReq) → is_some (long_list t) ≡ has_long_list t
long-there t =
    or-there (too_many (length t.guards)) (option_or (too_many (length t.success)) (too_many (length t.failure)))
    ∙ (λ i. many-there t.guards i || or-there (too_many (length t.success)) (too_many (length t.failure)) i)
    ∙ (λ i. is_long t.guards || (many-there t.success i || many-there t.failure i))
    ∙ regroup (is_long t.guards) (is_long t.success) (is_long t.failure)

form-there : (t : TxnReq) → is_some (form_denial t) ≡ (has_long_list t || writes_twice t.success || writes_twice t.failure)
form-there t =
    or-there (long_list t) (option_or (twice t.success) (twice t.failure)) ∙ (λ i. long-there t i || or-there (twice t.success) (twice t.failure) i)
    ∙ (λ i. has_long_list t || (twice-there t.success i || twice-there t.failure i)) ∙ regroup (has_long_list t) (writes_twice t.success) (writes_twice t.failure)

pub full-there : (s : Store) (cs : List Change) → is_some (full s cs) ≡ is_full_store s cs
full-there s cs = if-there (is_full_store s cs) (denied.Full (revision s))

txn-there : (s : Store) (t : TxnReq) → is_some (txn_denial s t) ≡ is_denied s (ask.Txn t)
unfolding is_denied
txn-there s t =
    let acts = acts_denial s (chosen_acts s t) in
    let last = full s (worked s (chosen_acts s t)).changes in
    or-there (form_denial t) (option_or acts last) ∙ (λ i. form-there t i || or-there acts last i)
    ∙ (λ i. (has_long_list t || writes_twice t.success || writes_twice t.failure) || (acts-there s (chosen_acts s t) i || full-there s (worked s (chosen_acts s t)).changes i))
    ∙ regroup (has_long_list t || writes_twice t.success || writes_twice t.failure) _ _

pub named-denied : (s : Store) (a : Ask) → is_some (first_denial s a) ≡ is_denied s a
unfolding first_denial is_denied
named-denied s (ask.Txn t) = txn-there s t
named-denied s (ask.Range q) = range-there s q
named-denied s (ask.Grant id ttl) = if-there (has_lease s id) (denied.LeaseExists id)
named-denied s (ask.Alive id) = refl

-- ---- what carry says then

pub carry-denied : (s : Store) (a : Ask) (d : Denied) → first_denial s a ≡ Some d → carry s a ≡ None
unfolding carry
carry-denied s a d h = ap (λ b. cond b None (Some (carried_out s a))) (sym (named-denied s a) ∙ ap is_some h)

carry-done : (s : Store) (a : Ask) → first_denial s a ≡ None → carry s a ≡ Some (carried_out s a)
unfolding carry
carry-done s a h = ap (λ b. cond b None (Some (carried_out s a))) (sym (named-denied s a) ∙ ap is_some h)

-- ---- each ask carried out

or-neither : {A : Type 0} (a b : Option A) → option_or a b ≡ None → (a ≡ None) × (b ≡ None)
or-neither None b h = (refl, h)
or-neither (Some x) b h = absurd cc

not_twice : (acts : List Act) → twice acts ≡ None → writes_twice acts ≡ false
not_twice acts h = sym (twice-there acts) ∙ ap is_some h

-- a transaction that passes by itself writes no key twice in either list
pub chosen_once : (t : TxnReq) (b : Bool) → form_denial t ≡ None → writes_twice (chosen b t) ≡ false
chosen_once t true h = not_twice t.success (or-neither (twice t.success) (twice t.failure) (or-neither (long_list t) (option_or (twice t.success) (twice t.failure)) h).1).0
chosen_once t false h = not_twice t.failure (or-neither (twice t.success) (twice t.failure) (or-neither (long_list t) (option_or (twice t.success) (twice t.failure)) h).1).1

-- a transaction with this choice, these changes and these answers passes each test
pub record IsPassed (s : Store) (t : TxnReq) (b : Bool) (changes : List Change) (parts : List ActAns) : Type 0 where
  pub formed : form_denial t ≡ None
  pub named : acts_denial s (chosen b t) ≡ None
  pub room : full s changes ≡ None
  pub changed : changes ≡ (worked s (chosen b t)).changes
  pub answered : parts ≡ (worked s (chosen b t)).parts

txn_passed : (s : Store) (t : TxnReq) (changes : List Change) (parts : List ActAns) → IsPassed s t (succeeds s t) changes parts →
    carry s (ask.Txn t) ≡ Some (grown s changes, answer.Txn (revision (grown s changes)) (succeeds s t) parts)
unfolding first_denial carried_out txn_done
txn_passed s t changes parts h =
    let none : txn_denial s t ≡ None = or-none (form_denial t) _ h.formed ∙ or-none (acts_denial s (chosen_acts s t)) _ h.named ∙ ap (full s) (sym h.changed) ∙ h.room in
    carry-done s (ask.Txn t) none
    ∙ (λ i. Some (grown s (sym h.changed i), answer.Txn (revision (grown s (sym h.changed i))) (succeeds s t) (sym h.answered i)))

pub txn_carried : (s : Store) (t : TxnReq) (b : Bool) (changes : List Change) (parts : List ActAns) → b ≡ succeeds s t → IsPassed s t b changes parts →
    carry s (ask.Txn t) ≡ Some (grown s changes, answer.Txn (revision (grown s changes)) b parts)
txn_carried s t b changes parts is =
    subst (λ (x : Bool). IsPassed s t x changes parts → carry s (ask.Txn t) ≡ Some (grown s changes, answer.Txn (revision (grown s changes)) x parts))
    (sym is) (txn_passed s t changes parts)

pub range_carried : (s : Store) (q : RangeReq) (found_now : RangeAns) → range_denial s q ≡ None →
    found_now ≡ found q (looked_at s (present s) q.revision) → carry s (ask.Range q) ≡ Some (s, answer.Range (revision s) found_now)
unfolding first_denial carried_out
range_carried s q found_now none is = carry-done s (ask.Range q) none ∙ (λ i. Some (s, answer.Range (revision s) (sym is i)))

pub grant_carried : (s new : Store) (id ttl : ℤ) → has_lease s id ≡ false → new ≡ record s { leases = insert s.leases id ttl } →
    carry s (ask.Grant id ttl) ≡ Some (new, answer.Granted (revision s) id ttl)
unfolding first_denial carried_out
grant_carried s new id ttl free is =
    carry-done s (ask.Grant id ttl) (ap (λ b. cond b (Some (denied.LeaseExists id)) None) free) ∙ (λ i. Some (sym is i, answer.Granted (revision s) id ttl))

pub alive_carried : (s : Store) (id ttl : ℤ) → ttl ≡ seconds (get s.leases id) → carry s (ask.Alive id) ≡ Some (s, answer.Alive (revision s) id ttl)
unfolding first_denial carried_out
alive_carried s id ttl is = carry-done s (ask.Alive id) refl ∙ (λ i. Some (s, answer.Alive (revision s) id (sym is i)))

-- ---- what the result of a store's call says

pub named : {A : Type 0} (o : Option Denied) (r : Result A StoreFault) → IfErr r (Names o) → (d : Denied) → r ≡ Err (fault.Denied d) → o ≡ Some d
named {A} o r h d is = subst (λ (x : Result A StoreFault). IfErr x (Names o)) is h
