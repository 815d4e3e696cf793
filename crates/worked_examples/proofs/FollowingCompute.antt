-- Each row computes; the sample board's nets have numbers that its strings lower.
use Rattle.std.proofs.Common.{◌≡◌, ◌<◌, ◌==◌, arith, Bool, true, false, ℕ, zero, suc, List, [], ◌∷◌, refl, sym, ap, subst, ◌∙◌, inl, inr, Some, None, slice_get, slice_index_or, unwrap_or, Option, if◌then◌else◌}
use Rattle.std.proofs.lemmas.Bool.{eqb-true, cases_Bool, false≢true}
use Rattle.boundary.specs.Cells.{driver_from}
use Rattle.pin_nets.specs.Wired.{Net}
use Rattle.pin_nets.specs.declared.Follow.{Follow}
use Rattle.board_model.specs.Cells.{Member}
use Rattle.board_model.specs.Nets.{net_of}
use Rattle.std.specs.List.{AllByRecursion}
use Rattle.std.specs.Prelude.{codes, find, option_map}
use Rattle.pin_nets.specs.Wired.{joins}
use Rattle.pin_nets.specs.declared.Pin.{Pin}
use Rattle.bsdl_device.specs.declared.Cell.{Cell}
use Rattle.bsdl_device.specs.declared.Control3.{Control3}
use Rattle.board_model.specs.Following.{AreFit, AreFound, FollowsNoOtherControl, HasNoCircle, HasNoLoop, IsAmong, StringBetween, is_control}
use Rattle.board_model.proofs.Following.{every_string_holds, lowered_numbers}
use Rattle.board_model.proofs.Following as following
use Rattle.pin_nets.specs.declared.Pull.TheVariants.{Down, Free}
use Rattle.worked_examples.specs.PlaySamples.{pin_d, pin_q, sample_device}
use Rattle.worked_examples.specs.Following.{FollowingRows, named_net, two_following, following_device, q_follows_d, joined_to_itself, crossed}

-- the place of the first letter of its name
abbrev number : Net → ℕ
number net = slice_index_or net.name 0 0

-- the string of pin Q between these nets
abbrev string_at : (nets : List Net) (ms : List Member) (place : ℕ) → slice_get ms place ≡ Some (following_device false) → StringBetween nets ms (net_of nets place 4) (net_of nets place 5)
string_at nets ms place stands = record {
  place = place;
  member = following_device false;
  string = q_follows_d false;
  target = 4;
  stands = stands;
  follows = inl refl;
  drives = refl;
  target_net = refl;
  source_net = refl;
}

-- cell 0 drives pin Q alone
target-q : (p : ℕ) → driver_from p 0 sample_device.cells ≡ Some 0 → p ≡ 4
target-q p e =
    elim (cases_Bool (p == 4)) [
      | inl hit ↦ eqb-true p 4 hit
      | inr miss ↦
          let none : Option ℕ = None in
          let no : none ≡ Some 0 = sym (ap (λ (x : Bool). if x then Some 0 else none) miss) ∙ e in
          absurd (cc)
    ]

abbrev nets : List Net
nets = two_following.nets

at-device : (inverted : Bool) (place : ℕ) → number (net_of nets place 5) < number (net_of nets place 4)
    → (m : Member) (f : Follow) (t : ℕ) → following_device inverted ≡ m → IsAmong f m.follows → driver_from t 0 m.device.cells ≡ Some f.cell
    → number (net_of nets place f.source) < number (net_of nets place t)
at-device inverted place less m f t is =
    subst (λ (n : Member). IsAmong f n.follows → driver_from t 0 n.device.cells ≡ Some f.cell → number (net_of nets place f.source) < number (net_of nets place t)) is
    (λ among. elim among [
      | inl e ↦ subst (λ (g : Follow). driver_from t 0 sample_device.cells ≡ Some g.cell → number (net_of nets place g.source) < number (net_of nets place t)) e
          (λ drives. subst (λ (p : ℕ). number (net_of nets place 5) < number (net_of nets place p)) (sym (target-q t drives)) less)
      | inr none ↦ absurd none
    ])

by-place : (place : ℕ) (m : Member) (f : Follow) (t : ℕ) → slice_get two_following.members place ≡ Some m → IsAmong f m.follows
    → driver_from t 0 m.device.cells ≡ Some f.cell → number (net_of nets place f.source) < number (net_of nets place t)
by-place zero m f t stands = at-device true 0 (omega arith) m f t (ap (λ (o : Option Member). unwrap_or o (following_device true)) stands)
by-place (suc zero) m f t stands = at-device false 1 (omega arith) m f t (ap (λ (o : Option Member). unwrap_or o (following_device false)) stands)
by-place (suc (suc place)) m f t stands = absurd (cc)

lowers : (target source : Net) → StringBetween nets two_following.members target source → number source < number target
lowers target source st =
    subst (λ (n : Net). number n < number target) (sym st.source_net)
    (subst (λ (n : Net). number (net_of nets st.place st.string.source) < number n) (sym st.target_net)
    (by-place st.place st.member st.string st.target st.stands st.follows st.drives))

-- ---- the strings of the sample board fit, and none is on a circle

fit_one : (inverted : Bool) → AreFit (following_device inverted)
fit_one inverted = record {
  one = (λ g among same. among, tt);
  there = λ f among. elim among [
    | inl e ↦ subst (λ (g : Follow). g.cell < 3) e (omega arith)
    | inr none ↦ absurd none
  ];
}

all_fit : AllByRecursion (λ (m : Member). AreFit m) two_following.members
all_fit = (fit_one true, (fit_one false, tt))

-- no cell of the sample device is controlled by cell 0
controlled-by-none : (k : ℕ) (c : Cell) → slice_get sample_device.cells k ≡ Some c → is_control 0 c.control ≡ true → k ≡ 0
controlled-by-none zero c at control = refl
controlled-by-none (suc zero) c at control =
    let none : Option Control3 = None in
    absurd (false≢true (ap (λ (o : Option Cell). is_control 0 (unwrap_or (option_map (λ (d : Cell). d.control) o) none)) at ∙ control))
controlled-by-none (suc (suc zero)) c at control =
    let none : Option Control3 = None in
    absurd (false≢true (ap (λ (o : Option Cell). is_control 0 (unwrap_or (option_map (λ (d : Cell). d.control) o) none)) at ∙ control))
controlled-by-none (suc (suc (suc k))) c at control = absurd (cc)

no_control : (inverted : Bool) → FollowsNoOtherControl (following_device inverted)
no_control inverted f among k c at control = elim among [
  | inl e ↦
      let cell : f.cell ≡ 0 = ap (λ (g : Follow). g.cell) (sym e) in
      controlled-by-none k c at (ap (λ (n : ℕ). is_control n c.control) (sym cell) ∙ control) ∙ sym cell
  | inr none ↦ absurd none
]

abbrev found_by : Net → Type 0
found_by net = (pin : Pin) → IsAmong pin net.pins → find (joins pin.device pin.port) nets ≡ Some net

one_pin : (net : Net) (p : Pin) → find (joins p.device p.port) nets ≡ Some net → (pin : Pin) → p ≡ pin → find (joins pin.device pin.port) nets ≡ Some net
one_pin net p is pin same = subst (λ (q : Pin). find (joins q.device q.port) nets ≡ Some net) same is

first_net : found_by (named_net (codes "M") Down (pin_d 0 ∷ []))
first_net pin on = elim on [ inl p ↦ one_pin _ (pin_d 0) refl pin p | inr none ↦ absurd none ]

second_net : found_by (named_net (codes "N") Free (pin_q 0 ∷ pin_d 1 ∷ []))
second_net pin on = elim on [
  | inl p ↦ one_pin _ (pin_q 0) refl pin p
  | inr later ↦ elim later [ inl p ↦ one_pin _ (pin_d 1) refl pin p | inr none ↦ absurd none ]
]

third_net : found_by (named_net (codes "V") Free (pin_q 1 ∷ []))
third_net pin on = elim on [ inl p ↦ one_pin _ (pin_q 1) refl pin p | inr none ↦ absurd none ]

are_found : AreFound nets
are_found net among = elim among [
  | inl e ↦ subst found_by e first_net
  | inr one ↦ elim one [
    | inl e ↦ subst found_by e second_net
    | inr two ↦ elim two [ inl e ↦ subst found_by e third_net | inr none ↦ absurd none ]
  ]
]

lowered : HasNoLoop nets two_following.members
lowered = lowered_numbers nets two_following.members number lowers

circle_free : HasNoCircle nets two_following.members
circle_free = following.no_loop nets two_following.members are_found (no_control true, (no_control false, tt)) lowered

pub followingrows : FollowingRows
followingrows = record {
  at_power_up = refl;
  cores = refl;
  empty_text = (refl, refl, refl, refl);
  empty_text_levels = refl;
  following = (refl, refl, refl, refl);
  following_levels = refl;
  one_round_only = refl;
  no_loop = lowered;
  fit = all_fit;
  no_circle = circle_free;
  each_holds = every_string_holds nets two_following.members circle_free all_fit;
  itself = record { string = string_at joined_to_itself (following_device false ∷ []) 0 refl; steps = 0; back = refl };
  each_other = record {
    string = string_at crossed (following_device false ∷ following_device false ∷ []) 0 refl;
    steps = 1;
    back = (net_of crossed 1 5, string_at crossed (following_device false ∷ following_device false ∷ []) 1 refl, refl);
  };
  in_order = refl;
  out_of_order = refl;
}
