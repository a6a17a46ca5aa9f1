-- How the parts of a server's end come together.
use Rattle.std.proofs.Common.{◌≡◌, ◌⊎◌, ℕ, ◌<◌, true, false, List, [], Option, refl, sym, ap, ◌∙◌, inl, inr, subst, arith}
use Rattle.std.specs.Prelude.{Result, Ok, Err}
use Rattle.std.specs.Arc.{arc_value}
use Rattle.std.specs.declared.alloc.Global.{Global}
use Rattle.std.specs.declared.sync.Arc.{Arc}
use Rattle.zw_hub.specs.declared.feed.FeedEnd.{FeedEnd}
use Rattle.zx_net.specs.Nets.{NetCounts}
use Rattle.zx_outside.specs.Counts.{one_more}
use Rattle.zw_hub.specs.Ends.{MayBeTold}
use Rattle.zp_server.specs.Books.{Ending}
use Rattle.zp_server.specs.Lines.{fault_text, feed_text, listening_text, text_of}
use Rattle.zp_server.specs.Telling.{TellsFront, IsCutOutput, IsWritten, Output, Seen, Starts, TellsText}
use Rattle.zp_server.specs.Logs.{AreFewClients, LogLeaves, Logs, NetStop, LogStops, counting}
use Rattle.zp_server.specs.Beginning.{Begins, ClusterTold}
use Rattle.zp_server.specs.Ends.{Begun, Clients, ServeEnds, FeedTold, ServeFinishes, IsAfterLines, IsServeDone, IsNextTold, IsNextLine, IsListenRefused, IsShut, IsStarved, IsUnbound, IsUnstarted, IsUnwritten, IsWriting, ServeListened, ServesFrom}
use Rattle.zp_server.specs.declared.ends.Stop.{Stop}
use Rattle.zp_server.specs.declared.ends.Stop.TheVariants as stop
use Rattle.zp_server.specs.declared.ends.ServeEnd.{ServeEnd}
use Rattle.zp_server.specs.declared.ends.ServeEnd.TheVariants as ends
use Rattle.zp_server.proofs.Heads.{begins_failures, begins_why}
use Rattle.zp_server.proofs.Logging.{logs_met}

seen_is : (s t : Seen) → t.net ≡ s.net → t.out ≡ s.out → t.book ≡ s.book → t ≡ s
seen_is s t net out book =
    ap (λ (n : NetCounts). record { net = n; out = t.out; book = t.book }) net
    ∙ ap (λ (o : Output). record { net = s.net; out = o; book = t.book }) out
    ∙ ap (λ (b : Option (List Ending)). record { net = s.net; out = s.out; book = b }) book

cuts_of : (text : List ℕ) (s t : Seen) → t.net ≡ s.net → t.book ≡ s.book → IsCutOutput text s.out t.out → TellsFront text s t
cuts_of text s t net book cut = record { accepted = ap (λ (n : NetCounts). n.accepted) net; doors = ap (λ (n : NetCounts). n.door_faults) net; out = cut; book = book }

-- ---- after lines

few_all : (n limit : ℕ) → n < limit → AreFewClients n n limit
few_all n limit fewer = record { least = omega arith; most = omega arith; within = omega (arith, fewer) }

-- ---- it was done

done : (size : ℕ) (listen : List ℕ) (limit refusals refusals' : ℕ) (t s t' : Seen) → t' ≡ s → ServesFrom size (Ok tt) listen limit refusals refusals' t s → IsServeDone size listen limit t t'
done size listen limit refusals refusals' t s t' same (inl refused) = absurd refused
done size listen limit refusals refusals' t s t' same (inr (inl begun)) = absurd begun
done size listen limit refusals refusals' t s t' same (inr (inr h)) = record {
  first = h.first;
  listens = h.listens;
  logs = subst (Logs size false limit (counting limit) [] [] h.first) (sym same) h.stops;
}

-- ---- the net had a fault

net_told : (size : ℕ) (listen : List ℕ) (limit failures failures' refusals refusals' : ℕ) (t s t' : Seen) → TellsText fault_text s t' → ServesFrom size (Err stop.Net) listen limit refusals refusals' t s
    → ServeEnds size ends.Net listen limit failures failures' refusals refusals' t t'
net_told size listen limit failures failures' refusals refusals' t s t' tells (inl refused) =
    inl (record { rose = inr refused.0; tells = subst (λ (x : Seen). TellsText fault_text x t') refused.1 tells })
net_told size listen limit failures failures' refusals refusals' t s t' tells (inr (inl faulted)) = inr (inl (record { broken = s; faulted = faulted; tells = tells }))
net_told size listen limit failures failures' refusals refusals' t s t' tells (inr (inr h)) =
    inr (inr (record { first = h.first; listens = h.listens; broken = s; stopped = h.stops; tells = tells }))

net_cut : (size : ℕ) (listen : List ℕ) (limit refusals refusals' : ℕ) (t s t' : Seen) → TellsFront fault_text s t' → ServesFrom size (Err stop.Net) listen limit refusals refusals' t s
    → IsUnwritten size listen limit t t'
net_cut size listen limit refusals refusals' t s t' cut (inl refused) = record { text = fault_text; from = s; writing = inr (inl (refl, inl refused.1)); cut = cut }
net_cut size listen limit refusals refusals' t s t' cut (inr (inl faulted)) = record { text = fault_text; from = s; writing = inr (inl (refl, inr faulted)); cut = cut }
net_cut size listen limit refusals refusals' t s t' cut (inr (inr h)) =
    let stopped : NetStop size limit h.first s = h.stops in
    record {
      text = fault_text;
      from = s;
      cut = cut;
      writing = inr (inr (record {
        left = stopped.left;
        between = stopped.between;
        lines = record {
          first = h.first;
          listens = h.listens;
          n = stopped.n;
          k = stopped.n;
          few = few_all stopped.n limit stopped.fewer;
          logs = logs_met size false stopped.n (counting stopped.n) [] stopped.left h.first stopped.between stopped.logs;
        };
        is_next = inr (inl (refl, stopped.faulted));
      }));
    }

-- ---- the sink had a fault before

unwritten : (size : ℕ) (listen : List ℕ) (limit refusals refusals' : ℕ) (t s t' : Seen) → t' ≡ s → ServesFrom size (Err stop.Write) listen limit refusals refusals' t s → IsUnwritten size listen limit t t'
unwritten size listen limit refusals refusals' t s t' same (inl refused) = absurd refused
unwritten size listen limit refusals refusals' t s t' same (inr (inl cut)) = record {
  text = listening_text listen;
  from = t;
  writing = inl (refl, refl);
  cut = subst (TellsFront (listening_text listen) t) (sym same) cut;
}
unwritten size listen limit refusals refusals' t s t' same (inr (inr h)) = record {
  text = text_of (h.stops).last;
  from = (h.stops).between;
  writing = inr (inr (record {
    left = (h.stops).left;
    between = (h.stops).between;
    lines = record { first = h.first; listens = h.listens; n = (h.stops).n; k = (h.stops).k; few = (h.stops).few; logs = (h.stops).logs };
    is_next = inl ((h.stops).last, ((refl, (h.stops).owed), refl));
  }));
  cut = subst (TellsFront (text_of (h.stops).last) (h.stops).between) (sym same) (h.stops).cut;
}

-- ---- memory was refused

starved : (size : ℕ) (listen : List ℕ) (limit refusals refusals' : ℕ) (t s t' : Seen) → t' ≡ s → ServesFrom size (Err stop.Memory) listen limit refusals refusals' t s → (t' ≡ t) ⊎ IsStarved size listen limit t t'
starved size listen limit refusals refusals' t s t' same (inl refused) = inl (same ∙ refused)
starved size listen limit refusals refusals' t s t' same (inr (inl begun)) = inl (same ∙ begun)
starved size listen limit refusals refusals' t s t' same (inr (inr h)) = inr (record {
  left = (h.stops).left;
  between = (h.stops).between;
  lines = record { first = h.first; listens = h.listens; n = (h.stops).n; k = (h.stops).k; few = (h.stops).few; logs = (h.stops).logs };
  leaves = subst (LogLeaves (h.stops).left (h.stops).between) (sym same) (h.stops).leaves;
})

-- ---- the hub was closed

feed_lines : (size : ℕ) (end : Arc FeedEnd Global) (listen : List ℕ) (limit refusals refusals' : ℕ) (t s : Seen) → ServesFrom size (Err (stop.Feed end)) listen limit refusals refusals' t s
    → MayBeTold (arc_value end) × IsAfterLines size listen limit [] t s
feed_lines size end listen limit refusals refusals' t s (inl refused) = absurd refused
feed_lines size end listen limit refusals refusals' t s (inr (inl begun)) = absurd begun
feed_lines size end listen limit refusals refusals' t s (inr (inr h)) =
    ((h.stops).may, record { first = h.first; listens = h.listens; n = (h.stops).n; k = (h.stops).k; few = (h.stops).few; logs = (h.stops).logs })

-- ---- the whole

pub ended : (size : ℕ) (r : Result (Unit {0}) Stop) (end : ServeEnd) (listen : List ℕ) (limit failures failures' refusals refusals' : ℕ) (t s t' : Seen) → failures' ≡ failures
    → ServesFrom size r listen limit refusals refusals' t s → t'.net ≡ s.net → t'.book ≡ s.book → ServeFinishes r end s.out t'.out → ServeEnds size end listen limit failures failures' refusals refusals' t t'
ended size (Ok u) ends.Done listen limit failures failures' refusals refusals' t s t' asked from net book fin =
    (done size listen limit refusals refusals' t s t' (seen_is s t' net fin book) from, asked)
ended size (Err stop.Net) ends.Net listen limit failures failures' refusals refusals' t s t' asked from net book fin =
    net_told size listen limit failures failures' refusals refusals' t s t' (record { net = net; out = fin; book = book }) from
ended size (Err stop.Net) ends.WriteFault listen limit failures failures' refusals refusals' t s t' asked from net book fin =
    net_cut size listen limit refusals refusals' t s t' (cuts_of fault_text s t' net book fin) from
ended size (Err stop.Write) ends.WriteFault listen limit failures failures' refusals refusals' t s t' asked from net book fin =
    unwritten size listen limit refusals refusals' t s t' (seen_is s t' net fin book) from
ended size (Err stop.Memory) ends.Memory listen limit failures failures' refusals refusals' t s t' asked from net book fin =
    starved size listen limit refusals refusals' t s t' (seen_is s t' net fin book) from
ended size (Err (stop.Feed end)) (ends.Feed told) listen limit failures failures' refusals refusals' t s t' asked from net book fin =
    let lines : MayBeTold (arc_value end) × IsAfterLines size listen limit [] t s = feed_lines size end listen limit refusals refusals' t s from in
    subst (λ e. FeedTold size (arc_value e) listen limit t t') (sym fin.0) (record { may = lines.0; between = s; lines = lines.1; tells = record { net = net; out = fin.1; book = book } })
ended size (Err (stop.Feed end)) ends.WriteFault listen limit failures failures' refusals refusals' t s t' asked from net book fin =
    let lines : MayBeTold (arc_value end) × IsAfterLines size listen limit [] t s = feed_lines size end listen limit refusals refusals' t s from in
    record {
      text = feed_text (arc_value end);
      from = s;
      cut = cuts_of (feed_text (arc_value end)) s t' net book fin;
      writing = inr (inr (record { left = []; between = s; lines = lines.1; is_next = inr (inr (arc_value end, (refl, refl))) }));
    }
ended size (Err (stop.Feed end)) ends.Memory listen limit failures failures' refusals refusals' t s t' asked from net book fin =
    let lines : MayBeTold (arc_value end) × IsAfterLines size listen limit [] t s = feed_lines size end listen limit refusals refusals' t s from in
    inr (record {
      left = [];
      between = s;
      lines = lines.1;
      leaves = subst (LogLeaves [] s) (sym (seen_is s t' net fin book)) (record { accepted = refl; doors = refl; book = refl; taken = inl refl; unharmed = refl });
    })
ended size (Ok u) ends.WriteFault listen limit failures failures' refusals refusals' t s t' asked from net book fin = absurd fin
ended size (Ok u) ends.Net listen limit failures failures' refusals refusals' t s t' asked from net book fin = absurd fin
ended size (Ok u) ends.Memory listen limit failures failures' refusals refusals' t s t' asked from net book fin = absurd fin
ended size (Ok u) (ends.Feed told) listen limit failures failures' refusals refusals' t s t' asked from net book fin = absurd fin
ended size (Err stop.Net) ends.Done listen limit failures failures' refusals refusals' t s t' asked from net book fin = absurd fin
ended size (Err stop.Net) ends.Memory listen limit failures failures' refusals refusals' t s t' asked from net book fin = absurd fin
ended size (Err stop.Net) (ends.Feed told) listen limit failures failures' refusals refusals' t s t' asked from net book fin = absurd fin
ended size (Err stop.Write) ends.Done listen limit failures failures' refusals refusals' t s t' asked from net book fin = absurd fin
ended size (Err stop.Write) ends.Net listen limit failures failures' refusals refusals' t s t' asked from net book fin = absurd fin
ended size (Err stop.Write) ends.Memory listen limit failures failures' refusals refusals' t s t' asked from net book fin = absurd fin
ended size (Err stop.Write) (ends.Feed told) listen limit failures failures' refusals refusals' t s t' asked from net book fin = absurd fin
ended size (Err stop.Memory) ends.Done listen limit failures failures' refusals refusals' t s t' asked from net book fin = absurd fin
ended size (Err stop.Memory) ends.WriteFault listen limit failures failures' refusals refusals' t s t' asked from net book fin = absurd fin
ended size (Err stop.Memory) ends.Net listen limit failures failures' refusals refusals' t s t' asked from net book fin = absurd fin
ended size (Err stop.Memory) (ends.Feed told) listen limit failures failures' refusals refusals' t s t' asked from net book fin = absurd fin
ended size (Err (stop.Feed end)) ends.Done listen limit failures failures' refusals refusals' t s t' asked from net book fin = absurd fin
ended size (Err (stop.Feed end)) ends.Net listen limit failures failures' refusals refusals' t s t' asked from net book fin = absurd fin

-- a first ask failed, or memory was refused for it
pub unasked : (size now : ℕ) (why : Stop) (end : ServeEnd) (listen : List ℕ) (limit refusals refusals' : ℕ) (c c' : ClusterTold) (t t' : Seen) → Begins now (Err why) c c'
    → t'.net ≡ t.net → t'.book ≡ t.book → ServeFinishes (Err why) end t.out t'.out → ServeEnds size end listen limit c.failures c'.failures refusals refusals' t t'
unasked size now stop.Net ends.Net listen limit refusals refusals' c c' t t' begins net book fin = inl (record { rose = inl (begins_failures now (Err stop.Net) c c' begins); tells = record { net = net; out = fin; book = book } })
unasked size now stop.Net ends.WriteFault listen limit refusals refusals' c c' t t' begins net book fin =
    record { text = fault_text; from = t; writing = inr (inl (refl, inl refl)); cut = cuts_of fault_text t t' net book fin }
unasked size now stop.Memory ends.Memory listen limit refusals refusals' c c' t t' begins net book fin = inl (seen_is t t' net fin book)
unasked size now stop.Net ends.Done listen limit refusals refusals' c c' t t' begins net book fin = absurd fin
unasked size now stop.Net ends.Memory listen limit refusals refusals' c c' t t' begins net book fin = absurd fin
unasked size now stop.Net (ends.Feed told) listen limit refusals refusals' c c' t t' begins net book fin = absurd fin
unasked size now stop.Memory ends.Done listen limit refusals refusals' c c' t t' begins net book fin = absurd fin
unasked size now stop.Memory ends.WriteFault listen limit refusals refusals' c c' t t' begins net book fin = absurd fin
unasked size now stop.Memory ends.Net listen limit refusals refusals' c c' t t' begins net book fin = absurd fin
unasked size now stop.Memory (ends.Feed told) listen limit refusals refusals' c c' t t' begins net book fin = absurd fin
unasked size now stop.Write end listen limit refusals refusals' c c' t t' begins net book fin = absurd (begins_why now stop.Write c c' begins)
unasked size now (stop.Feed e) end listen limit refusals refusals' c c' t t' begins net book fin = absurd (begins_why now (stop.Feed e) c c' begins)

-- ---- what the calls make of these

-- there is no room for the first line, and nothing was done
pub unready : (size : ℕ) (listen : List ℕ) (limit : ℕ) (t t' : Seen) → t'.net ≡ t.net → t'.out ≡ t.out → t'.book ≡ t.book → Clients size (Err stop.Memory) listen limit t t'
unready size listen limit t t' net out book = inl (seen_is t t' net out book)

-- it could not listen
pub unbound : (size : ℕ) (listen : List ℕ) (limit : ℕ) (t t' : Seen) → t'.net ≡ record t.net { door_faults = one_more (t.net).door_faults } → t'.out ≡ t.out → t'.book ≡ t.book → Clients size (Err stop.Net) listen limit t t'
unbound size listen limit t t' net out book = inl (record {
  accepted = ap (λ (n : NetCounts). n.accepted) net;
  dials = ap (λ (n : NetCounts). n.dial_faults) net;
  faulted = ap (λ (n : NetCounts). n.door_faults) net;
  out = out;
  book = book;
})

-- it could not say that it listens
pub unlisted : (size : ℕ) (text listen : List ℕ) (limit : ℕ) (t t' : Seen) → text ≡ listening_text listen → t'.net ≡ t.net → t'.book ≡ t.book → IsCutOutput text t.out t'.out → Clients size (Err stop.Write) listen limit t t'
unlisted size text listen limit t t' is net book cut = inl (cuts_of (listening_text listen) t t' net book (subst (λ (x : List ℕ). IsCutOutput x t.out t'.out) is cut))

-- it said so, and then accepted clients
pub listened : (size : ℕ) (r : Result (Unit {0}) Stop) (text listen : List ℕ) (limit : ℕ) (t s t' : Seen) → LogStops size r limit [] s t' → text ≡ listening_text listen → s.net ≡ t.net → s.book ≡ t.book → IsWritten text t.out s.out
    → Clients size r listen limit t t'
listened size r text listen limit t s t' stops is net book written = inr (record {
  first = s;
  listens = record { net = net; out = subst (λ (x : List ℕ). IsWritten x t.out s.out) is written; book = book };
  stops = stops;
})

-- memory was refused before a worker was started
pub unbegun : (size : ℕ) (listen : List ℕ) (limit refusals refusals' : ℕ) (t t' : Seen) → t'.net ≡ t.net → t'.out ≡ t.out → t'.book ≡ t.book → ServesFrom size (Err stop.Memory) listen limit refusals refusals' t t'
unbegun size listen limit refusals refusals' t t' net out book = inl (seen_is t t' net out book)

-- a worker could not be started, after another one or none
pub refused : (size : ℕ) (why : Stop) (listen : List ℕ) (limit refusals between refusals' : ℕ) (t t' : Seen) → between ≡ refusals → Starts (Err why) between refusals' → t'.net ≡ t.net → t'.out ≡ t.out → t'.book ≡ t.book
    → ServesFrom size (Err why) listen limit refusals refusals' t t'
refused size stop.Net listen limit refusals between refusals' t t' before starts net out book = inl (starts ∙ ap one_more before, seen_is t t' net out book)
refused size stop.Memory listen limit refusals between refusals' t t' before starts net out book = inl (seen_is t t' net out book)
refused size stop.Write listen limit refusals between refusals' t t' before starts net out book = absurd starts
refused size (stop.Feed end) listen limit refusals between refusals' t t' before starts net out book = absurd starts

-- a worker could not be started, after others were
pub starts_later : (why : Stop) (refusals between refusals' : ℕ) → between ≡ refusals → Starts (Err why) between refusals' → Starts (Err why) refusals refusals'
starts_later stop.Net refusals between refusals' before starts = starts ∙ ap one_more before
starts_later stop.Memory refusals between refusals' before starts = tt
starts_later stop.Write refusals between refusals' before starts = absurd starts
starts_later (stop.Feed end) refusals between refusals' before starts = absurd starts

-- both were started
pub begun : (size : ℕ) (r : Result (Unit {0}) Stop) (listen : List ℕ) (limit refusals refusals' : ℕ) (t t' : Seen) → Clients size r listen limit t t' → ServesFrom size r listen limit refusals refusals' t t'
begun size r listen limit refusals refusals' t t' clients = inr clients
