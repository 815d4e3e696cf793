-- What a description of the code stands for.
use Rattle.std.specs.Prelude.{◌≡◌, ℕ, List, ◌∷◌, map, Option, Some, None, option_map, is_some, Result}
use Rattle.std.specs.Prelude.{Ok, Err}
use Rattle.bsdl_text.specs.NumberView.{value}
use Rattle.bsdl_text.specs.Words.{upper}
use Rattle.bsdl_values.specs.InstructionView as rows_view
use Rattle.bsdl_values.specs.CellView.{cell_row}
use Rattle.bsdl_values.specs.Device.{Name}
use Rattle.bsdl_values.specs.declared.Attribute.{Attribute}
use Rattle.bsdl_entity.specs.declared.entity.Outline.{Outline}
use Rattle.bsdl_entity.specs.Entity.{File}
use Rattle.bsdl_entity.specs.GivenView.{first_unsaid, given}
use Rattle.bsdl_entity.specs.OutlineView.{outline}
use Rattle.bsdl_entity.specs.PortsView.{ports}
use Rattle.bsdl_description.specs.declared.description.Taps.{Taps}
use Rattle.bsdl_description.specs.declared.description.Description as declared_description
use Rattle.bsdl_description.specs.declared.description.Unfit.{Unfit}
use Rattle.bsdl_description.specs.declared.description.Unfit.TheVariants.{Unsaid, Missing}
use Rattle.bsdl_description.specs.Describing.{Refusal, bad_form, missing, Description, and_reset}

abbrev pub taps : Taps → List Name
taps t = upper t.input.text.now ∷ upper t.output.text.now ∷ upper t.mode.text.now ∷ and_reset (upper t.clock.text.now)
    (option_map (λ w. upper w.text.now) t.reset)

abbrev pub description : Outline → declared_description.Description → Description
description o d = record {
  ports = ports o.groups.items;
  given = map given o.given.items;
  taps = taps d.taps;
  has_trst = is_some d.taps.reset;
  instruction_length = value d.instruction_length;
  boundary_length = value d.boundary_length;
  opcode_start = d.opcode_start;
  opcodes = map rows_view.opcode_row d.opcodes.items;
  capture = rows_view.pattern d.capture;
  cells = map cell_row d.cells.items;
  idcodes = rows_view.patterns d.idcodes;
  usercodes = rows_view.patterns d.usercodes;
  private_names = map rows_view.private_name d.private_names.items;
  access_start = d.access_start;
  accesses = map rows_view.access_row d.accesses.items;
}

-- the ports that were found are those of the TAP
abbrev pub AreTaps : Result Taps Attribute → Result (List Name) Refusal → Type 0
AreTaps (Ok t) says = says ≡ Ok (taps t)
AreTaps (Err a) says = says ≡ Err (missing a)

abbrev pub spelt_by : Option ℕ → File → Result File Refusal
spelt_by None f = Ok f
spelt_by (Some place) f = Err (bad_form place)

-- the entity that an outline spells, or its first text that says nothing
abbrev pub spelt : Outline → Result File Refusal
spelt o = spelt_by (first_unsaid o.given.items) (outline o)

abbrev pub refusal : Unfit → Refusal
refusal (Unsaid place) = bad_form place
refusal (Missing a) = missing a

-- what was found of an entity is what is described of it
abbrev pub Describes : Outline → Result declared_description.Description Unfit → Result Description Refusal → Type 0
Describes o (Ok d) says = says ≡ Ok (description o d)
Describes o (Err unfit) says = says ≡ Err (refusal unfit)
