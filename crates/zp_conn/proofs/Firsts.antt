-- Before anything came.
use Rattle.std.proofs.Common.{◌≡◌, ◌-◌, ℕ, List, [], refl, sym, subst, inl}
use Rattle.zk_jute.proofs.Framing.{no_frame}
use Rattle.zk_wire.specs.Cutting.{Stream, unread}
use Rattle.zp_conn.specs.Inboxes.{Holds}

unread-holds : Holds [] [] (record { stream = unread; frames = []; count = 0 })
unread-holds = record { stands = record { rest = []; framed = ([], refl, refl, no_frame [] refl); held = inl refl }; placed = refl; counted = refl }

pub holds_nothing : (s : Stream) (frames : List (List ℕ)) → s ≡ unread → frames ≡ [] → Holds [] [] (record { stream = s; frames = frames; count = 0 })
holds_nothing s frames e f = subst (λ x. Holds [] [] (record { stream = x; frames = frames; count = 0 })) (sym e) (subst (λ l. Holds [] [] (record { stream = unread; frames = l; count = 0 })) (sym f) unread-holds)
