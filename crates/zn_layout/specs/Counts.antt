-- How the counts of a node change with its children (Programmer's Guide, "ZooKeeper Stat Structure").
use Rattle.std.specs.Prelude.{ℕ, pos, nat_abs, ◌+ℤ◌, ◌-◌}
use Rattle.zn_layout.specs.declared.record.CountRec.{CountRec}

-- the counts with one child more, which was created
abbrev pub one_more : CountRec → CountRec
one_more c = record { creates = c.creates +ℤ pos 1; children = c.children +ℤ pos 1 }

-- the counts with so many children fewer
abbrev pub fewer : CountRec → ℕ → CountRec
fewer c n = record { creates = c.creates; children = pos (nat_abs c.children - n) }

abbrev pub one_less : CountRec → CountRec
one_less c = fewer c 1
