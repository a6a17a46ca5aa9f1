use Rattle.std.proofs.Common.{◌≡◌, ◌<◌, length, List, [], ◌∷◌, ◌++◌, ap, ◌∙◌, sym, arith}
use Rattle.std.specs.Prelude.{map, option_map, Option}
use Rattle.std.proofs.lemmas.List.{get_or-map, length-map}
use Rattle.zx_base.specs.Maps.{Bytes}
use Rattle.zw_watch.specs.declared.seen_path.SeenPath.{SeenPath}
use Rattle.zn_reads.specs.Places.{place_of}
use Rattle.zn_reads.specs.SeenPaths.{place_at, Place}
use Rattle.zn_reads.proofs.Indexed.{seen-more}
use Rattle.zn_reads.proofs.set_watches.push_seen.Goals as goal

pub loop-i-preserved : goal.loop-i-preserved
loop-i-preserved c = λ v indexed.
    let texts = c.args.texts.now in
    let text : Bytes = c.index-texts-i.result in
    let now : List SeenPath = c.loop-i.seen.items in
    let places : List (Option Place) = map (option_map place_of) c.args.places.now in
    let place : Option Place = option_map place_of c.index-places-i.result in
    let long = length-map c.args.places.now (option_map place_of) in
    let within : c.loop-i.i < length texts = omega (arith, ap length c.requires, long, length-map texts (place_at c.args.list)) in
    let inside : c.loop-i.i < length c.args.places.now = omega (arith, within, ap length c.requires, long, length-map texts (place_at c.args.list)) in
    let placed = ap (option_map place_of) c.index-places-i.is ∙ sym (get_or-map (option_map place_of) c.args.places.now c.loop-i.i c.index-places-i.result place inside) in
    let path : c.in_ok-copy_of.field-0 ≡ text = c.in_ok-copy_of.ensures ∙ c.as_slice.ensures in
    c.in_ok-push.ensures.items ∙ ap (λ (p : Bytes). now ++ record { path = p; list = c.args.list; at = c.at.result } ∷ []) path
    ∙ seen-more v c.args.list c.args.seen.now.items now texts places c.loop-i.i text place c.at.result c.requires within c.index-texts-i.is placed (c.at.ensures v indexed) (c.loop-i.invariant v indexed)
