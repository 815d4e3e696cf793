-- The board or its first fault, from what each part of the judgement says.
use Rattle.std.proofs.Common.{◌≡◌, ℕ, List, [], map, codes, string_bytes, Option, Some, None, option_map, Result, Ok, Err, refl, ap, sym, ◌∙◌, subst}
use Rattle.std.specs.Option.{option_or}
use Rattle.std.specs.List.{filter_map}
use Rattle.toml.specs.Data.{Members}
use Rattle.bsdl_device.specs.Device.{Device}
use Rattle.board_tables.specs.Fields.{name_at, tables_at}
use Rattle.board_tables.specs.Faults.{unfit}
use Rattle.board_tables.specs.declared.fault.BoardFault.{BoardFault}
use Rattle.board_tables.specs.declared.fault.BoardFault.TheVariants as fault
use Rattle.board_plan.specs.declared.plan.Plan.{Plan}
use Rattle.board_parts.specs.Files.{File, described, device_at, missing_in, refused_in}
use Rattle.board_tables.specs.Files.{file_names}
use Rattle.board_file.specs.Wiring.{Fault, BadField, UnknownFile, Bsdl, makes, wiring_of, wire_fault, known_at, member_at}
use Rattle.board_parts.specs.Parts.{net_of}
use Rattle.board_plan.specs.Planned.{Wiring}
use Rattle.board_file.specs.View.{JudgesKeys, IsUnknownFile, TellsFault, TellsWiring, PlansBoard}
use Rattle.board_parts.specs.Parts.{known_in, member_in}
use Rattle.board_parts.specs.LibraryView.{stands_at}
use Rattle.board_file.proofs.DescribedLaws.{Named, named_from, same_devices, same_known, same_members}

abbrev made : Option Fault → Wiring → Result Wiring Fault
made o w = elim o [ None ↦ Ok w | Some f ↦ Err f ]

module _ {F : Type 0} (refuses : List ℕ → F → Type 0) where
  pub any_memory : (r : Result Wiring Fault) → TellsWiring refuses (Err fault.NoMemory) r
  any_memory (Ok w) = tt
  any_memory (Err e) = tt

  told : (f : BoardFault F) (o : Option Fault) (e : Fault) (w : Wiring) → o ≡ Some e → TellsFault refuses f (Some e) → TellsWiring refuses (Err f) (made o w)
  told f o e w is h = subst (λ o. TellsWiring refuses (Err f) (made o w)) (sym is) h

  key_told : (f : BoardFault F) (o : Option (List ℕ)) (rest : Option Fault) (w : Wiring) → JudgesKeys (Err f) o → TellsWiring refuses (Err f) (made (option_or (option_map BadField o) rest) w)
  key_told (fault.BadField k) o rest w h = told (fault.BadField k) _ (BadField (string_bytes k)) w (ap (λ o. option_or (option_map BadField o) rest) h) refl
  key_told fault.NoMemory o rest w h = any_memory _
  key_told fault.BadToml o rest w h = absurd h
  key_told (fault.UnknownFile s) o rest w h = absurd h
  key_told (fault.Bsdl f) o rest w h = absurd h
  key_told (fault.UnknownPin s) o rest w h = absurd h
  key_told (fault.PinTwice s) o rest w h = absurd h
  key_told fault.TooLarge o rest w h = absurd h
  key_told (fault.CoreLoop s) o rest w h = absurd h

  file_told : (f : BoardFault F) (o : Option Fault) (name : List ℕ) (w : Wiring) → o ≡ Some (UnknownFile name) → IsUnknownFile name f → TellsWiring refuses (Err f) (made o w)
  file_told (fault.UnknownFile s) o name w is h = told (fault.UnknownFile s) o _ w is (ap (λ n. Some (UnknownFile n)) (sym h))
  file_told fault.NoMemory o name w is h = any_memory _
  file_told fault.BadToml o name w is h = absurd h
  file_told (fault.BadField k) o name w is h = absurd h
  file_told (fault.Bsdl f) o name w is h = absurd h
  file_told (fault.UnknownPin s) o name w is h = absurd h
  file_told (fault.PinTwice s) o name w is h = absurd h
  file_told fault.TooLarge o name w is h = absurd h
  file_told (fault.CoreLoop s) o name w is h = absurd h

  module _ (says : List ℕ → Option Device) (files : List File) (t : Members) (names : List (List ℕ)) (ds : List (Option Device))
      (names_is : names ≡ file_names t) (ds_is : ds ≡ map (described says files) names) where
    abbrev devices : List Members
    devices = tables_at (codes "device") t

    abbrev nets : List Members
    nets = tables_at (codes "net") t

    -- the fault of the pins
    abbrev wires : Option Fault
    wires = wire_fault (map name_at devices) (filter_map (device_at says files) devices) nets

    abbrev board : Wiring
    board = wiring_of says files t

    named : Named names devices
    named = subst (λ ns. Named ns devices) (sym names_is) (named_from [] devices)

    keys_are : unfit (map (known_in names ds) devices) t ≡ unfit (map (known_at says files) devices) t
    keys_are = ap (λ ds. unfit (map (known_in names ds) devices) t) ds_is ∙ ap (λ known. unfit known t) (same_known says files names devices named)

    devices_are : filter_map (stands_at names ds) devices ≡ filter_map (device_at says files) devices
    devices_are = ap (λ ds. filter_map (stands_at names ds) devices) ds_is ∙ same_devices says files names devices named

    members_are : filter_map (member_in names ds) devices ≡ filter_map (member_at says files) devices
    members_are = ap (λ ds. filter_map (member_in names ds) devices) ds_is ∙ same_members says files names devices named

    pub keys_fault : (f : BoardFault F) → JudgesKeys (Err f) (unfit (map (known_in names ds) devices) t) → TellsWiring refuses (Err f) (makes says files t)
    keys_fault f h = key_told f _ _ _ (subst (JudgesKeys (Err f)) keys_are h)

    -- ---- where no key is at fault

    module _ (keys : unfit (map (known_in names ds) devices) t ≡ None) where
      rest_is : (o : Option Fault) → option_or (option_map BadField (unfit (map (known_at says files) devices) t)) o ≡ o
      rest_is o = ap (λ k. option_or (option_map BadField k) o) (sym keys_are ∙ keys)

      pub missing_fault : (f : BoardFault F) (name : List ℕ) → missing_in files names ≡ Some name → IsUnknownFile name f → TellsWiring refuses (Err f) (makes says files t)
      missing_fault f name is h =
          let refused = option_map Bsdl (refused_in says files (file_names t)) in
          file_told f _ name board (rest_is _ ∙ ap (λ m. option_or (option_or (option_map UnknownFile m) refused) wires) (ap (missing_in files) (sym names_is) ∙ is)) h

      module _ (missing : missing_in files names ≡ None) where
        files_are : (o : Option Fault) → option_or (option_or (option_map UnknownFile (missing_in files (file_names t))) (option_map Bsdl (refused_in says files (file_names t)))) o ≡ option_or (option_map Bsdl (refused_in says files names)) o
        files_are o =
            ap (λ ns. option_or (option_or (option_map UnknownFile (missing_in files ns)) (option_map Bsdl (refused_in says files ns))) o) (sym names_is)
            ∙ ap (λ m. option_or (option_or (option_map UnknownFile m) (option_map Bsdl (refused_in says files names))) o) missing

        pub refused_fault : (f : F) (text : List ℕ) → refused_in says files names ≡ Some text → refuses text f → TellsWiring refuses (Err (fault.Bsdl f)) (makes says files t)
        refused_fault f text is why =
            told (fault.Bsdl f) _ (Bsdl text) board (rest_is _ ∙ files_are wires ∙ ap (λ r. option_or (option_map Bsdl r) wires) is) (text, refl, why)

        module _ (good : refused_in says files names ≡ None) where
          left_is : (o : Option Fault) → wire_fault (map name_at devices) (filter_map (stands_at names ds) devices) nets ≡ o
              → option_or (option_map BadField (unfit (map (known_at says files) devices) t))
              (option_or (option_or (option_map UnknownFile (missing_in files (file_names t))) (option_map Bsdl (refused_in says files (file_names t))))
              wires) ≡ o
          left_is o is =
              rest_is _ ∙ files_are wires ∙ ap (λ r. option_or (option_map Bsdl r) wires) good
              ∙ ap (λ found. wire_fault (map name_at devices) found nets) (sym devices_are) ∙ is

          same_board : board ≡ record { members = filter_map (member_in names ds) devices; nets = map (net_of (map name_at devices) (filter_map (stands_at names ds) devices)) nets }
          same_board = λ i. record { members = sym members_are i; nets = map (net_of (map name_at devices) (sym devices_are i)) nets }

          pub planned : (r : Result Plan (BoardFault F)) → PlansBoard r names ds devices nets → TellsWiring refuses r (makes says files t)
          planned (Ok p) h =
              subst (λ o. TellsWiring refuses (Ok p) (made o board)) (sym (left_is None h.0))
              (ap Ok (same_board ∙ sym h.1))
          planned (Err (fault.UnknownPin s)) h = told (fault.UnknownPin s) _ _ board (left_is _ h) refl
          planned (Err (fault.PinTwice s)) h = told (fault.PinTwice s) _ _ board (left_is _ h) refl
          planned (Err fault.TooLarge) h = told fault.TooLarge _ _ board (left_is _ h) refl
          planned (Err fault.NoMemory) h = any_memory _
          planned (Err fault.BadToml) h = absurd h
          planned (Err (fault.BadField k)) h = absurd h
          planned (Err (fault.UnknownFile s)) h = absurd h
          planned (Err (fault.Bsdl f)) h = absurd h
          planned (Err (fault.CoreLoop s)) h = absurd h
