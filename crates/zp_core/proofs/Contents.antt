-- What a request that came in a frame carries fits a frame, and what each of its parts carries.
use Rattle.std.proofs.Common.{◌≡◌, ℕ, ◌≤◌, List, [], ◌∷◌, length, subst, arith}
use Rattle.std.specs.List.{AllByRecursion, flat_map}
use Rattle.std.proofs.lemmas.List.Elements.{All-from_recursion, recursion_from_All}
use Rattle.zk_jute.specs.Records.{contents_of, part_contents}
use Rattle.zk_model.specs.Limits.{max_frame}
use Rattle.zk_model.specs.declared.request.Part.{Part}
use Rattle.zk_model.specs.declared.request.Part.TheVariants as part
use Rattle.zk_model.specs.declared.request.Request.{Request}
use Rattle.zk_model.specs.declared.request.Request.TheVariants as req
use Rattle.zn_multi.specs.Carrying.{AreShort}
use Rattle.zn_updates.specs.Deciding.{content_in}
use Rattle.zn_updates.specs.Parts.{part_content}
use Rattle.zp_core.specs.Held.{IsRequest}

abbrev IsShort : List ℕ → Type 0
IsShort content = length content ≤ max_frame

content_by : (r : Request) → AllByRecursion IsShort (contents_of r) → IsShort (content_in r)
content_by (req.Create path content acl flags) h = h.0
content_by (req.Create2 path content acl flags) h = h.0
content_by (req.SetData path content version) h = h.0
content_by _ h = omega arith

parts_by : (ps : List Part) → AllByRecursion IsShort (flat_map part_contents ps) → AllByRecursion (λ (p : Part). IsShort (part_content p)) ps
parts_by [] h = tt
parts_by (part.Create path content acl flags ∷ ps) h = (h.0, parts_by ps h.1)
parts_by (part.Delete path version ∷ ps) h = (omega arith, parts_by ps h)
parts_by (part.SetData path content version ∷ ps) h = (h.0, parts_by ps h.1)
parts_by (part.Check path version ∷ ps) h = (omega arith, parts_by ps h)

pub content_fits : (r : Request) → IsRequest r → length (content_in r) ≤ max_frame
content_fits r asked = content_by r (recursion_from_All IsShort (contents_of r) asked.short)

pub parts_fit : (r : Request) (ps : List Part) → r ≡ req.Multi ps → IsRequest r → AreShort ps
parts_fit r ps is asked =
    let short = (subst IsRequest is asked).short in
    All-from_recursion (λ (p : Part). IsShort (part_content p)) ps (parts_by ps (recursion_from_All IsShort (flat_map part_contents ps) short))
