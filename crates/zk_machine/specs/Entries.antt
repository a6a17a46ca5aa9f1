-- A finite map from paths as the list of its entries, in the order of the paths' bytes.
use Rattle.std.specs.Prelude.{ℕ, ℤ, List}
use Rattle.std.specs.Ordering.{nat_cmp}
use Rattle.std.specs.declared.cmp.Ordering.{Ordering}
use Rattle.std.specs.Cmp.Lexicographic.{slice_cmp}
use Rattle.std.specs.Coded.{Coded, code_by, coded×, coded_list, coded_ℕ, coded_ℤ}
use Rattle.std.specs.FinMap as finmap
use Rattle.zx_base.specs.Maps.{Bytes, Map}
use Rattle.zk_model.specs.declared.node.Node.{Node}
use Rattle.zk_model.specs.Znodes.{Tree}

abbrev pub order : Bytes → Bytes → Ordering
order = slice_cmp nat_cmp

abbrev pub Entries : Type 0 → Type 0
Entries X = List (Bytes × X)

abbrev pub map_of : {X : Type 0} → Entries X → Map X
map_of es = finmap.from_sorted es

abbrev pub coded_map : {X : Type 0} → Coded X → Coded (Map X)
coded_map x = finmap.code (coded_list coded_ℕ) x

-- a node as a tuple of its fields
abbrev pub coded_node : Coded Node
coded_node = code_by (List ℕ × (ℤ × (ℤ × (ℤ × (ℤ × (ℤ × (ℤ × (ℤ × ℤ))))))))
    (coded× (coded_list coded_ℕ) (coded× coded_ℤ (coded× coded_ℤ (coded× coded_ℤ (coded× coded_ℤ (coded× coded_ℤ (coded× coded_ℤ (coded× coded_ℤ coded_ℤ))))))))
    (λ n. (n.content, (n.czxid, (n.mzxid, (n.pzxid, (n.ctime, (n.mtime, (n.version, (n.creates, n.owner)))))))))
    (λ t. record {
      content = t.0;
      czxid = t.1.0;
      mzxid = t.1.1.0;
      pzxid = t.1.1.1.0;
      ctime = t.1.1.1.1.0;
      mtime = t.1.1.1.1.1.0;
      version = t.1.1.1.1.1.1.0;
      creates = t.1.1.1.1.1.1.1.0;
      owner = t.1.1.1.1.1.1.1.1;
    })
    (λ n i. n)

abbrev pub coded_tree : Coded Tree
coded_tree = coded_map coded_node
