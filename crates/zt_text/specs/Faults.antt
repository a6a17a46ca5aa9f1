-- The last line of what a replay writes: `done`, or the fault of the script's line that stopped it.
use Rattle.std.specs.Prelude.{ℕ, List, [], ◌∷◌, ◌++◌, codes, decimal}
use Rattle.zt_text.specs.declared.script.Why.{Why}
use Rattle.zt_text.specs.declared.script.Why.TheVariants as why
use Rattle.zt_text.specs.declared.script.Unread.{Unread}
use Rattle.zt_text.specs.declared.script.Unread.TheVariants as unread

abbrev pub why_text : Why → List ℕ
why_text why.NumberInUse = codes "number in use"
why_text why.NoSuchConnection = codes "no such connection"
why_text why.ConnectionClosed = codes "connection is closed"
why_text why.NotAConnection = codes "not a connection"
why_text why.FrameOpen = codes "frame is open"
why_text why.TooLong = codes "too long"
why_text why.NoRequestOut = codes "no request is out"
why_text why.AlreadyCarriedOut = codes "already carried out"
why_text why.NotCarriedOut = codes "not carried out"
why_text why.NoSuchStray = codes "no such stray"
why_text why.RequestOut = codes "request is out"
why_text why.NoEntry = codes "no entry to take"
why_text why.NoLag = codes "no lag"
why_text why.NoSuchLease = codes "no such lease"
why_text why.StoreFull = codes "store is full"
why_text why.KeyKept = codes "key is kept"
why_text why.ClockLimit = codes "clock limit"

abbrev pub unread_text : Unread → List ℕ
unread_text unread.Unreadable = codes "unreadable line"
unread_text unread.TooLong = codes "too long"

abbrev pub done_text : List ℕ
done_text = codes "done\n"

abbrev pub fault_text : ℕ → List ℕ → List ℕ
fault_text n why = codes "fault " ++ decimal n ++ 32 ∷ (why ++ 10 ∷ [])
