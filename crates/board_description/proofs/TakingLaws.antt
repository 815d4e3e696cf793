-- Of an opcode without an X, the instruction that takes it is that by which the board knows its code.
use Rattle.std.proofs.Common.{◌≡◌, ◌+◌, Bool, true, false, ◌&&◌, ◌||◌, cond, List, [], ◌∷◌, ◌++◌, length, map, codes, slice_get, Option, Some, None, refl, sym, ap, ◌∙◌, append_assoc, if◌then◌else◌}
use Rattle.std.specs.Prelude.{option_and_then, option_map}
use Rattle.std.specs.List.{find, list_all, list_any, position_from}
use Rattle.std.proofs.lemmas.Iterator.Adapters.{position_from-zero}
use Rattle.std.proofs.lemmas.List.{length-append}
use Rattle.bsdl_device.specs.Device.{Name, Opcode, Pattern}
use Rattle.bsdl_device.specs.Opcodes.{matches, names_it}
use Rattle.board_description.specs.Covered.{TakesAsTheBoardDoes, is_one, opcode_names, opcode_patterns, takes}

there : (pre : List Name) (m : Name) (ns : List Name) → slice_get (pre ++ m ∷ ns) (length pre) ≡ Some m
there [] m ns = refl
there (x ∷ pre) m ns = there pre m ns

-- the name of the first opcode that passes, behind others
abbrev named : (Pattern → Bool) → (pre ns : List Name) → List Pattern → Option Name
named f pre ns ps = option_and_then (slice_get (pre ++ ns)) (position_from f (length pre) ps)

one_more : (f : Pattern → Bool) (pre : List Name) (m : Name) (ns : List Name) (ps : List Pattern)
    → option_and_then (slice_get (pre ++ m ∷ ns)) (position_from f (length pre + 1) ps) ≡ named f (pre ++ m ∷ []) ns ps
one_more f pre m ns ps =
    ap (λ (l : List Name). option_and_then (slice_get l) (position_from f (length pre + 1) ps)) (sym (append_assoc pre (m ∷ []) ns))
    ∙ ap (λ n. option_and_then (slice_get ((pre ++ m ∷ []) ++ ns)) (position_from f n ps)) (sym (length-append pre (m ∷ [])))

of_row : (f : Pattern → Bool) (pre : List Name) (m : Name) (ps : List Pattern) (ns : List Name) (qs : List Pattern) (rest : Option Name)
    → ((before : List Name) → named f before ns qs ≡ rest)
    → named f pre (map (λ (p : Pattern). m) ps ++ ns) (ps ++ qs) ≡ (if list_any f ps then Some m else rest)
of_row f pre m [] ns qs rest h = h pre
of_row f pre m (p ∷ ps) ns qs rest h =
    either (f p) (one_more f pre m (map (λ (p : Pattern). m) ps ++ ns) (ps ++ qs) ∙ of_row f (pre ++ m ∷ []) m ps ns qs rest h)
  where
    either : (b : Bool) → option_and_then (slice_get (pre ++ m ∷ (map (λ (p : Pattern). m) ps ++ ns))) (position_from f (length pre + 1) (ps ++ qs)) ≡ (if list_any f ps then Some m else rest)
        → option_and_then (slice_get (pre ++ m ∷ (map (λ (p : Pattern). m) ps ++ ns))) (cond b (Some (length pre)) (position_from f (length pre + 1) (ps ++ qs)))
        ≡ (if b || list_any f ps then Some m else rest)
    either true more = there pre m (map (λ (p : Pattern). m) ps ++ ns)
    either false more = more

of_rows : (f : Pattern → Bool) (rows : List Opcode) (pre : List Name)
    → named f pre (opcode_names rows) (opcode_patterns rows) ≡ option_map (λ o. o.name) (find (λ (o : Opcode). list_any f o.patterns) rows)
of_rows f [] pre = refl
of_rows f (row ∷ rows) pre =
    of_row f pre row.name row.patterns (opcode_names rows) (opcode_patterns rows) (option_map (λ o. o.name) (find (λ (o : Opcode). list_any f o.patterns) rows)) (of_rows f rows)
    ∙ by (list_any f row.patterns)
  where
    by : (b : Bool) → (if b then Some row.name else option_map (λ o. o.name) (find (λ (o : Opcode). list_any f o.patterns) rows))
        ≡ option_map (λ (o : Opcode). o.name) (cond b (Some row) (find (λ (o : Opcode). list_any f o.patterns) rows))
    by true = refl
    by false = refl

-- ---- a code

takes_code : (q : Pattern) (code : List Bool) → takes q (map Some code) ≡ matches q code
takes_code [] [] = refl
takes_code [] (b ∷ code) = refl
takes_code (d ∷ q) [] = refl
takes_code (None ∷ q) (b ∷ code) = takes_code q code
takes_code (Some true ∷ q) (b ∷ code) = ap (λ (t : Bool). b && t) (takes_code q code)
takes_code (Some false ∷ q) (true ∷ code) = refl
takes_code (Some false ∷ q) (false ∷ code) = takes_code q code

any_code : (ps : List Pattern) (code : List Bool) → list_any (λ q. takes q (map Some code)) ps ≡ list_any (λ q. matches q code) ps
any_code [] code = refl
any_code (q ∷ ps) code = rw (takes_code q code, any_code ps code) refl

found_code : (rows : List Opcode) (code : List Bool) → find (λ (o : Opcode). list_any (λ q. takes q (map Some code)) o.patterns) rows ≡ find (names_it code) rows
found_code [] code = refl
found_code (row ∷ rows) code = rw (any_code row.patterns code, found_code rows code) refl

ones_code : (code : List Bool) → list_all is_one (map Some code) ≡ list_all (λ b. b) code
ones_code [] = refl
ones_code (b ∷ code) = ap (λ (t : Bool). b && t) (ones_code code)

pub takes_as_the_board_does : TakesAsTheBoardDoes
takes_as_the_board_does d code =
    let f = λ (q : Pattern). takes q (map Some code) in
    rw (ones_code code)
    (ap (λ o. if list_all (λ b. b) code then Some (codes "BYPASS") else option_and_then (slice_get (opcode_names d.opcodes)) o) (position_from-zero f (opcode_patterns d.opcodes))
    ∙ ap (λ o. if list_all (λ b. b) code then Some (codes "BYPASS") else o) (of_rows f d.opcodes [] ∙ ap (option_map (λ (o : Opcode). o.name)) (found_code d.opcodes code)))
