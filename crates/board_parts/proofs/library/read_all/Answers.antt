use Rattle.std.proofs.Common.{◌∙◌, [], sym, ap, refl, subst, drop, is_some, option_map, Bor, List, Option, ℕ, ◌+◌}
use Rattle.std.specs.Option.{option_or}
use Rattle.std.proofs.Math.ListN.{get_or}
use Rattle.board_tables.specs.WordView.{texts_of}
use Rattle.board_parts.specs.Files.{described, missing_in, refused_in, text_of}
use Rattle.board_parts.specs.LibraryView.{files_of, IsFirstRefusal, IsReading}
use Rattle.board_parts.proofs.LibraryLaws.{described_there, missing_there, refused_there, texts_from, devices_more}
use Rattle.board_parts.proofs.library.read_all.Goals as goal

pub loop-name-preserved : goal.loop-name-preserved
loop-name-preserved g c =
    let says = g.R.Describe.says in
    let refuses = g.R.Describe.refuses in
    let files = files_of c.args.files.now in
    let none : Bor (List ℕ) = record { ref_ptr = (0, 0); now = [] } in
    let names : List (Bor (List ℕ)) = c.args.names.now in
    let k = c.loop-name.name-index in
    let name : Bor (List ℕ) = get_or names k none in
    let more = texts_of (drop (k + 1) names) in
    let text : Option (List ℕ) = text_of files name.now in
    let r = c.in_ok-reading.reading in
    let before = c.loop-name.library in
    let read : IsReading says refuses (is_some before.refused) text r =
    subst (λ b. IsReading says refuses b text r) c.is_some-is_refused.ensures
    (subst (λ t. IsReading says refuses c.is_some-is_refused.result t r) c.text_named-text.ensures c.in_ok-reading.ensures.read) in
    let next = texts_from names k none c.loop-name-test.true in
    record {
      known = c.in_ok-reading.ensures.known;
      devices = rw c.in_ok-note.ensures.devices (devices_more (described says files) before.devices.items _ name.now _ more _ next (described_there says refuses _ text r read) c.loop-name.invariant.devices);
      missing = rw c.in_ok-note.ensures.missing (missing_there says refuses _ files before.missing name text r more refl read ∙ ap (λ m. option_or (option_map (λ n. n.now) before.missing) (missing_in files m)) (sym next) ∙ c.loop-name.invariant.missing);
      refused = λ whole first. rw c.in_ok-note.ensures.refused (refused_there says refuses files before.refused name.now text r more whole refl read (subst (λ m. IsFirstRefusal refuses before.refused (refused_in says files m) whole) next (c.loop-name.invariant.refused whole first)));
    }
