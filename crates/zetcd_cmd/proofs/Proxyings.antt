-- The words of `serve`, and what a proxy came to.
use Rattle.std.proofs.Common.{◌≡◌, ℕ, List, [], ◌∷◌, length, refl, sym, ap, ◌∙◌, subst, inl, inr, arith}
use Rattle.std.proofs.lemmas.Bool.{and_parts}
use Rattle.std.specs.Prelude.{◌⊎◌, Bool, true, false, Some, ◌==◌, if◌then◌else◌, codes, slice_index_or}
use Rattle.std.specs.List.{list_all}
use denote.Ref.{Bor}
use Rattle.ev_call.specs.Addresses.{IsAddress}
use Rattle.zx_outside.specs.Counts.{one_more}
use Rattle.zx_outside.specs.Writing.{counts_after_write}
use Rattle.zx_outside.specs.declared.sink.Took.TheVariants as took
use Rattle.zx_net.specs.Nets.{NetCounts}
use Rattle.zp_server.specs.Ends.{ServeEnds, IsAfterLines, IsNextTold, IsShut, IsUnbound, IsUnstarted, IsWriting}
use Rattle.zp_server.specs.Telling.{Output, Seen}
use Rattle.zp_server.specs.declared.ends.ServeEnd.{ServeEnd}
use Rattle.zp_server.specs.declared.ends.ServeEnd.TheVariants as ends
use Rattle.zetcd_cmd.specs.Outcomes.{IsWord}
use Rattle.ev_addresses.specs.Lists.{addresses_in}
use Rattle.ev_addresses.specs.Visible.{is_visible}
use Rattle.ev_addresses.proofs.Characters.{all_within}
use Rattle.zetcd_cmd.specs.Serving.{NamesEtcd, are_addresses, are_plain, is_address, limit_in}
use Rattle.zetcd_cmd.specs.Proxying.{HasNetCause, IsServe, NamesServe, Proxies, serve_status}
use Rattle.zetcd_cmd.specs.declared.status.Status.{Status}
use Rattle.zetcd_cmd.specs.declared.status.Status.TheVariants as status
use Rattle.zx_base.proofs.Options.{some-both}

-- ---- the words

pub one_word : (name : List ℕ) (words : List (Bor (List ℕ))) → IsWord name words → NamesServe words → ⊥
one_word name [] is names = is
one_word name (w ∷ []) is names = names.3
one_word name (w ∷ v ∷ words) is names = is

pub not_both : (words : List (Bor (List ℕ))) → NamesEtcd words → NamesServe words → ⊥
not_both [] etcd serve = etcd.2
not_both (w ∷ []) etcd serve = etcd.2
not_both (w ∷ v ∷ []) etcd serve = etcd.2
not_both (w ∷ v ∷ u ∷ []) etcd serve = serve.3
not_both (w ∷ v ∷ u ∷ t ∷ words) etcd serve = etcd.2

pub only_serve : (words : List (Bor (List ℕ))) → NamesEtcd words ⊎ NamesServe words → (NamesEtcd words → ⊥) → NamesServe words
only_serve words (inl etcd) not = absurd (not etcd)
only_serve words (inr serve) not = serve

serves_one : (words : List (Bor (List ℕ))) (listen other endpoint another : List ℕ) (n m : ℕ) → IsServe words listen endpoint n → IsServe words other another m →
    (listen ≡ other) × (endpoint ≡ another) × (n ≡ m)
serves_one [] listen other endpoint another n m one two = absurd one
serves_one (w ∷ []) listen other endpoint another n m one two = absurd one
serves_one (w ∷ v ∷ []) listen other endpoint another n m one two = absurd one
serves_one (w ∷ v ∷ u ∷ []) listen other endpoint another n m one two = absurd one
serves_one (w ∷ v ∷ u ∷ t ∷ []) listen other endpoint another n m one two = (sym one.1 ∙ two.1, sym one.3 ∙ two.3, some-both n m (limit_in t.now) one.5 two.5)
serves_one (w ∷ v ∷ u ∷ t ∷ s ∷ words) listen other endpoint another n m one two = absurd one

-- four words, the first of which is `serve`
pub of_four : (words : List (Bor (List ℕ))) (d : Bor (List ℕ)) (limit : ℕ) → length words ≡ 4 → (slice_index_or words 0 d).now ≡ codes "serve" → is_address (slice_index_or words 1 d).now ≡ true →
    are_addresses (slice_index_or words 2 d).now ≡ true → limit_in (slice_index_or words 3 d).now ≡ Some limit → IsServe words (slice_index_or words 1 d).now (slice_index_or words 2 d).now limit
of_four [] d limit long first second third fourth = absurd (omega (arith, long))
of_four (w ∷ []) d limit long first second third fourth = absurd (omega (arith, long))
of_four (w ∷ v ∷ []) d limit long first second third fourth = absurd (omega (arith, long))
of_four (w ∷ v ∷ u ∷ []) d limit long first second third fourth = absurd (omega (arith, long))
of_four (w ∷ v ∷ u ∷ t ∷ []) d limit long first second third fourth = (first, refl, second, refl, third, fourth)
of_four (w ∷ v ∷ u ∷ t ∷ s ∷ words) d limit long first second third fourth = absurd (omega (arith, long))

-- ---- addresses

no_option : (option all : Bool) → (if option then false else all) ≡ true → all ≡ true
no_option true all is = absurd cc
no_option false all is = is

address : (bytes : List ℕ) → is_address bytes ≡ true → IsAddress bytes
address [] is = absurd cc
address (b ∷ bytes) is = (omega arith, all_within (b ∷ bytes) (no_option (b == 45) (list_all is_visible (b ∷ bytes)) is))

pub address_of : (words : List (Bor (List ℕ))) (listen endpoint : List ℕ) (limit : ℕ) → IsServe words listen endpoint limit → IsAddress endpoint
address_of [] listen endpoint limit is = absurd is
address_of (w ∷ []) listen endpoint limit is = absurd is
address_of (w ∷ v ∷ []) listen endpoint limit is = absurd is
address_of (w ∷ v ∷ u ∷ []) listen endpoint limit is = absurd is
address_of (w ∷ v ∷ u ∷ t ∷ []) listen endpoint limit is = address endpoint (and_parts (is_address endpoint) (are_plain endpoint) is.4).0
address_of (w ∷ v ∷ u ∷ t ∷ s ∷ words) listen endpoint limit is = absurd is

-- ---- the statuses

by_status : (size : ℕ) (end : ServeEnd) (listen : List ℕ) (limit failures failures' refusals refusals' : ℕ) (t t' : Seen) →
    ServeEnds size end listen limit failures failures' refusals refusals' t t' → Proxies size (serve_status end) listen limit failures failures' refusals refusals' t t'
by_status size ends.Done listen limit failures failures' refusals refusals' t t' told = told
by_status size ends.WriteFault listen limit failures failures' refusals refusals' t t' told = told
by_status size ends.Net listen limit failures failures' refusals refusals' t t' told = told
by_status size ends.Memory listen limit failures failures' refusals refusals' t t' told = told
by_status size (ends.Feed end) listen limit failures failures' refusals refusals' t t' told = told

-- the words name one address and one limit, with which the server was called
pub proxied : (words : List (Bor (List ℕ))) (listen other endpoint another : List ℕ) (limit n failures failures' refusals refusals' : ℕ) (t t' : Seen) (end : ServeEnd) (s : Status) →
    IsServe words other another n → s ≡ serve_status end → ServeEnds (length (addresses_in another)) end other n failures failures' refusals refusals' t t' → IsServe words listen endpoint limit →
    Proxies (length (addresses_in endpoint)) s listen limit failures failures' refusals refusals' t t'
proxied words listen other endpoint another limit n failures failures' refusals refusals' t t' end s called is told named =
    let one = serves_one words other listen another endpoint n limit called named in
    subst (λ (l : List ℕ). Proxies (length (addresses_in endpoint)) s l limit failures failures' refusals refusals' t t') one.0
    (subst (λ (e : List ℕ). Proxies (length (addresses_in e)) s other limit failures failures' refusals refusals' t t') one.1
    (subst (λ (m : ℕ). Proxies (length (addresses_in another)) s other m failures failures' refusals refusals' t t') one.2
    (subst (λ (x : Status). Proxies (length (addresses_in another)) x other n failures failures' refusals refusals' t t') (sym is) (by_status (length (addresses_in another)) end other n failures failures' refusals refusals' t t' told))))

pub never_read : (end : ServeEnd) → serve_status end ≡ status.ReadFault → ⊥
never_read ends.Done is = let apart : status.Done ≡ status.ReadFault = is in cc
never_read ends.WriteFault is = let apart : status.WriteFault ≡ status.ReadFault = is in cc
never_read ends.Net is = let apart : status.Net ≡ status.ReadFault = is in cc
never_read ends.Memory is = let apart : status.Memory ≡ status.ReadFault = is in cc
never_read (ends.Feed end) is = let apart : status.Feed end ≡ status.ReadFault = is in cc

-- ---- what is counted

-- after the lines about clients: no door had a fault, and neither had the output
lines_doors : (size : ℕ) (listen : List ℕ) (limit : ℕ) (left : List ℕ) (t t' : Seen) → IsAfterLines size listen limit left t t' → (t'.net).door_faults ≡ (t.net).door_faults
lines_doors size listen limit left t t' lines = lines.logs.doors ∙ ap (λ (c : NetCounts). c.door_faults) lines.listens.net

lines_counts : (size : ℕ) (listen : List ℕ) (limit : ℕ) (left : List ℕ) (t t' : Seen) → IsAfterLines size listen limit left t t' → (t'.out).counts ≡ (t.out).counts
lines_counts size listen limit left t t' lines = lines.logs.unharmed ∙ lines.listens.out.unharmed

unbound_doors : (t t' : Seen) → IsUnbound t t' → (t'.net).door_faults ≡ one_more (t.net).door_faults
unbound_doors t t' unbound = ap (λ (c : NetCounts). c.door_faults) unbound.tells.net ∙ unbound.faulted.faulted

shut_doors : (size : ℕ) (listen : List ℕ) (limit : ℕ) (t t' : Seen) → IsShut size listen limit t t' → (t'.net).door_faults ≡ one_more (t.net).door_faults
shut_doors size listen limit t t' shut =
    ap (λ (c : NetCounts). c.door_faults) shut.tells.net ∙ shut.stopped.faulted.faulted
    ∙ ap one_more (shut.stopped.logs.doors ∙ ap (λ (c : NetCounts). c.door_faults) shut.listens.net)

-- what was there when the next line was to be written
next_counts : (text : List ℕ) (n k : ℕ) (left : List ℕ) (between from : Seen) → IsNextTold text n k left between from → (from.out).counts ≡ (between.out).counts
next_counts text n k left between from (inl line) = ap (λ (s : Seen). (s.out).counts) line.1.1
next_counts text n k left between from (inr (inl fault)) = ap (λ (o : Output). o.counts) fault.1.out
next_counts text n k left between from (inr (inr end)) = ap (λ (s : Seen). (s.out).counts) end.1.1

writing_counts : (size : ℕ) (text listen : List ℕ) (limit : ℕ) (t from : Seen) → IsWriting size text listen limit t from → (from.out).counts ≡ (t.out).counts
writing_counts size text listen limit t from (inl first) = ap (λ (s : Seen). (s.out).counts) first.1
writing_counts size text listen limit t from (inr (inl (_, inl none))) = ap (λ (s : Seen). (s.out).counts) none
writing_counts size text listen limit t from (inr (inl (_, inr door))) = ap (λ (o : Output). o.counts) door.out
writing_counts size text listen limit t from (inr (inr next)) = next_counts text next.lines.n next.lines.k next.left next.between from next.is_next ∙ lines_counts size listen limit next.left t next.between next.lines

-- ---- the causes

unstarted_cause : (failures failures' refusals refusals' : ℕ) (t t' : Seen) → IsUnstarted failures failures' refusals refusals' t t' →
    HasNetCause failures failures' refusals refusals' t.net t'.net (t.out).taken (t'.out).taken
unstarted_cause failures failures' refusals refusals' t t' unstarted = inr (unstarted.rose, unstarted.tells.out.taken)

pub net_cause : (size : ℕ) (end : ServeEnd) (listen : List ℕ) (limit failures failures' refusals refusals' : ℕ) (t t' : Seen) → serve_status end ≡ status.Net →
    ServeEnds size end listen limit failures failures' refusals refusals' t t' → HasNetCause failures failures' refusals refusals' t.net t'.net (t.out).taken (t'.out).taken
net_cause size ends.Net listen limit failures failures' refusals refusals' t t' is (inl unstarted) = unstarted_cause failures failures' refusals refusals' t t' unstarted
net_cause size ends.Net listen limit failures failures' refusals refusals' t t' is (inr (inl unbound)) = inl (unbound_doors t t' unbound)
net_cause size ends.Net listen limit failures failures' refusals refusals' t t' is (inr (inr shut)) = inl (shut_doors size listen limit t t' shut)
net_cause size ends.Done listen limit failures failures' refusals refusals' t t' is told = let apart : status.Done ≡ status.Net = is in absurd cc
net_cause size ends.WriteFault listen limit failures failures' refusals refusals' t t' is told = let apart : status.WriteFault ≡ status.Net = is in absurd cc
net_cause size ends.Memory listen limit failures failures' refusals refusals' t t' is told = let apart : status.Memory ≡ status.Net = is in absurd cc
net_cause size (ends.Feed end) listen limit failures failures' refusals refusals' t t' is told = let apart : status.Feed end ≡ status.Net = is in absurd cc

pub no_door_fault : (size : ℕ) (end : ServeEnd) (listen : List ℕ) (limit failures failures' refusals refusals' : ℕ) (t t' : Seen) → (serve_status end ≡ status.Net → ⊥) → (serve_status end ≡ status.WriteFault → ⊥) →
    ServeEnds size end listen limit failures failures' refusals refusals' t t' → (t'.net).door_faults ≡ (t.net).door_faults
no_door_fault size ends.Done listen limit failures failures' refusals refusals' t t' net write told =
    told.0.logs.doors ∙ ap (λ (c : NetCounts). c.door_faults) told.0.listens.net
no_door_fault size ends.Net listen limit failures failures' refusals refusals' t t' net write told = absurd (net refl)
no_door_fault size ends.WriteFault listen limit failures failures' refusals refusals' t t' net write told = absurd (write refl)
no_door_fault size ends.Memory listen limit failures failures' refusals refusals' t t' net write (inl before) = ap (λ (s : Seen). (s.net).door_faults) before
no_door_fault size ends.Memory listen limit failures failures' refusals refusals' t t' net write (inr starved) =
    starved.leaves.doors ∙ lines_doors size listen limit starved.left t starved.between starved.lines
no_door_fault size (ends.Feed end) listen limit failures failures' refusals refusals' t t' net write told =
    ap (λ (c : NetCounts). c.door_faults) told.tells.net ∙ lines_doors size listen limit [] t told.between told.lines

pub write_count : (size : ℕ) (end : ServeEnd) (listen : List ℕ) (limit failures failures' refusals refusals' : ℕ) (t t' : Seen) → serve_status end ≡ status.WriteFault →
    ServeEnds size end listen limit failures failures' refusals refusals' t t' → (t'.out).counts ≡ counts_after_write took.Failed (t.out).counts
write_count size ends.WriteFault listen limit failures failures' refusals refusals' t t' is told =
    told.cut.out.harmed ∙ ap (counts_after_write took.Failed) (writing_counts size told.text listen limit t told.from told.writing)
write_count size ends.Done listen limit failures failures' refusals refusals' t t' is told = let apart : status.Done ≡ status.WriteFault = is in absurd cc
write_count size ends.Net listen limit failures failures' refusals refusals' t t' is told = let apart : status.Net ≡ status.WriteFault = is in absurd cc
write_count size ends.Memory listen limit failures failures' refusals refusals' t t' is told = let apart : status.Memory ≡ status.WriteFault = is in absurd cc
write_count size (ends.Feed end) listen limit failures failures' refusals refusals' t t' is told = let apart : status.Feed end ≡ status.WriteFault = is in absurd cc

net_counts : (size : ℕ) (listen : List ℕ) (limit failures failures' refusals refusals' : ℕ) (t t' : Seen) → ServeEnds size ends.Net listen limit failures failures' refusals refusals' t t' →
    (t'.out).counts ≡ (t.out).counts
net_counts size listen limit failures failures' refusals refusals' t t' (inl unstarted) = unstarted.tells.out.unharmed
net_counts size listen limit failures failures' refusals refusals' t t' (inr (inl unbound)) = unbound.tells.out.unharmed ∙ ap (λ (o : Output). o.counts) unbound.faulted.out
net_counts size listen limit failures failures' refusals refusals' t t' (inr (inr shut)) =
    shut.tells.out.unharmed ∙ ap (λ (o : Output). o.counts) shut.stopped.faulted.out ∙ shut.stopped.logs.unharmed ∙ shut.listens.out.unharmed

pub no_write_count : (size : ℕ) (end : ServeEnd) (listen : List ℕ) (limit failures failures' refusals refusals' : ℕ) (t t' : Seen) → (serve_status end ≡ status.WriteFault → ⊥) →
    ServeEnds size end listen limit failures failures' refusals refusals' t t' → (t'.out).counts ≡ (t.out).counts
no_write_count size ends.Done listen limit failures failures' refusals refusals' t t' write told = told.0.logs.unharmed ∙ told.0.listens.out.unharmed
no_write_count size ends.Net listen limit failures failures' refusals refusals' t t' write told = net_counts size listen limit failures failures' refusals refusals' t t' told
no_write_count size ends.WriteFault listen limit failures failures' refusals refusals' t t' write told = absurd (write refl)
no_write_count size ends.Memory listen limit failures failures' refusals refusals' t t' write (inl before) = ap (λ (s : Seen). (s.out).counts) before
no_write_count size ends.Memory listen limit failures failures' refusals refusals' t t' write (inr starved) =
    starved.leaves.unharmed ∙ lines_counts size listen limit starved.left t starved.between starved.lines
no_write_count size (ends.Feed end) listen limit failures failures' refusals refusals' t t' write told =
    told.tells.out.unharmed ∙ lines_counts size listen limit [] t told.between told.lines
