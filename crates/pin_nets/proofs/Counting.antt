-- The numbers of drivers of each net, when one pin drives otherwise.
use Rattle.std.proofs.Common.{◌≡◌, ◌≢◌, ℕ, ◌+◌, ◌*◌, ◌<◌, ◌≤◌, ◌^◌, ⊎_elim, Bool, true, false, not, ◌==◌, ◌||◌, nat_lt, if◌then◌else◌, List, [], ◌∷◌, length, get_or, set, map, Option, Some, None, unwrap_or, slice_get, refl, sym, ap, subst, ◌∙◌, arith}
use Rattle.std.specs.Prelude.{count_by, cond, option_map, position}
use Rattle.std.specs.List.{list_all, list_any, position_or_len}
use Rattle.std.proofs.lemmas.Bool.{cases_eq, cases_lt}
use Rattle.std.proofs.lemmas.Bool.Decides.{nat_tests}
use Rattle.std.proofs.lemmas.List.{get_or-set_same, get_or-set_other, get_or-map, length-map, length-set}
use Rattle.std.proofs.lemmas.List.Elements.{All-get_or}
use Rattle.std.proofs.lemmas.List.FromFn.{fill_by_all}
use Rattle.std.proofs.lemmas.List.Quantifiers.{position-Some}
use Rattle.std.proofs.lemmas.List.Sums.{AllPass-from_list_all, sum_by-cons, count_by-le-length, prefix_len_passes}
use Rattle.std.proofs.lemmas.Option.{unwrap_or-slice_get, slice_get-get_or}
use Rattle.pin_nets.specs.declared.Counts.{Counts}
use Rattle.pin_nets.specs.declared.Drive.{Drive}
use Rattle.pin_nets.specs.declared.Drive.TheVariants.{Nothing}
use Rattle.pin_nets.specs.declared.Level.{Level}
use Rattle.pin_nets.specs.declared.Level.TheVariants.{Float}
use Rattle.pin_nets.specs.declared.Pull.TheVariants.{Free}
use Rattle.pin_nets.specs.declared.Rule.TheVariants.{Counted}
use Rattle.pin_nets.specs.Levels.{NetValue, four, net_counts, counted as counted_level, level, reads, Has, IsFew, Replaces, one, is_counted, is_strong, is_weak, pull_drive, drive_at, shown}
use Rattle.pin_nets.specs.Rows.{IsRow, numbers}
use Rattle.pin_nets.proofs.Leading.{counted_level as counted_level_is}
use Rattle.pin_nets.specs.Places.{has_pin, times, IsOnce, Placed, AreShort}

-- ---- one pin of a list of pins

abbrev occ : ℕ → List ℕ → ℕ
occ p pins = count_by (λ q. q == p) pins

pub count-cons : {X : Type 0} (t : X → Bool) (x : X) (xs : List X) → count_by t (x ∷ xs) ≡ one (t x) + count_by t xs
count-cons t x xs = sum_by-cons (λ y. cond (t y) 1 0) x xs

driven : (ds : List Drive) (q : ℕ) → drive_at ds q ≡ get_or ds q Nothing
driven ds q = unwrap_or-slice_get ds q Nothing

pub eq_true : (a b : ℕ) → a ≡ b → (a == b) ≡ true
eq_true a b e = grind (arith, nat_tests)

pub eq_false : (a b : ℕ) → a ≢ b → (a == b) ≡ false
eq_false a b e = grind (arith, nat_tests)

count_put : (t : Drive → Bool) (ds : List Drive) (p : ℕ) (d : Drive) (pins : List ℕ) → p < length ds
    → count_by t (map (drive_at (set ds p d)) pins) + occ p pins * one (t (drive_at ds p)) ≡ count_by t (map (drive_at ds) pins) + occ p pins * one (t d)
count_put t ds p d [] h = omega arith
count_put t ds p d (q ∷ pins) h =
    let later = count_put t ds p d pins h in
    let new = count-cons t (drive_at (set ds p d) q) (map (drive_at (set ds p d)) pins) in
    let old = count-cons t (drive_at ds q) (map (drive_at ds) pins) in
    let many = count-cons (λ (k : ℕ). k == p) q pins in
    ⊎_elim
    (λ (same : q ≡ p).
    let here : drive_at (set ds p d) q ≡ d = driven (set ds p d) q ∙ ap (λ (k : ℕ). get_or (set ds p d) k Nothing) same ∙ get_or-set_same ds p d Nothing h in
    let was : drive_at ds q ≡ drive_at ds p = ap (drive_at ds) same in
    let more : occ p (q ∷ pins) ≡ 1 + occ p pins = many ∙ ap (λ (b : Bool). one b + occ p pins) (eq_true q p same) in
    step (occ p pins) (one (t (drive_at ds p))) (one (t d)) (count_by t (map (drive_at (set ds p d)) pins)) (count_by t (map (drive_at ds) pins))
    (occ p (q ∷ pins)) (count_by t (drive_at (set ds p d) q ∷ map (drive_at (set ds p d)) pins)) (count_by t (drive_at ds q ∷ map (drive_at ds) pins))
    later more (new ∙ ap (λ (x : Drive). one (t x) + count_by t (map (drive_at (set ds p d)) pins)) here) (old ∙ ap (λ (x : Drive). one (t x) + count_by t (map (drive_at ds) pins)) was))
    (λ apart.
    let kept : drive_at (set ds p d) q ≡ drive_at ds q = driven (set ds p d) q ∙ get_or-set_other ds p q d Nothing apart ∙ sym (driven ds q) in
    let more : occ p (q ∷ pins) ≡ occ p pins = many ∙ ap (λ (b : Bool). one b + occ p pins) (eq_false q p apart) ∙ omega arith in
    other (occ p pins) (one (t (drive_at ds p))) (one (t d)) (one (t (drive_at ds q))) (count_by t (map (drive_at (set ds p d)) pins)) (count_by t (map (drive_at ds) pins))
    (occ p (q ∷ pins)) (count_by t (drive_at (set ds p d) q ∷ map (drive_at (set ds p d)) pins)) (count_by t (drive_at ds q ∷ map (drive_at ds) pins))
    later more (new ∙ ap (λ (x : Drive). one (t x) + count_by t (map (drive_at (set ds p d)) pins)) kept) old)
    (cases_eq q p)
  where
    step : (k o n a b kk aa bb : ℕ) → a + k * o ≡ b + k * n → kk ≡ 1 + k → aa ≡ n + a → bb ≡ o + b → aa + kk * o ≡ bb + kk * n
    step k o n a b kk aa bb h is x y = omega (arith, h, x, y, ap (λ (m : ℕ). m * o) is, ap (λ (m : ℕ). m * n) is)

    other : (k o n w a b kk aa bb : ℕ) → a + k * o ≡ b + k * n → kk ≡ k → aa ≡ w + a → bb ≡ w + b → aa + kk * o ≡ bb + kk * n
    other k o n w a b kk aa bb h is x y = omega (arith, h, x, y, ap (λ (m : ℕ). m * o) is, ap (λ (m : ℕ). m * n) is)

-- the drives of a net
net_put : (t : Drive → Bool) (ds : List Drive) (p : ℕ) (d : Drive) (x : NetValue) → p < length ds
    → count_by t (pull_drive x.pull ∷ map (drive_at (set ds p d)) x.pins) + times p x * one (t (drive_at ds p)) ≡ count_by t (pull_drive x.pull ∷ map (drive_at ds) x.pins) + times p x * one (t d)
net_put t ds p d x h =
    omega (arith, count_put t ds p d x.pins h, count-cons t (pull_drive x.pull) (map (drive_at (set ds p d)) x.pins), count-cons t (pull_drive x.pull) (map (drive_at ds) x.pins))

-- a net without the pin
pub off_net : (ds : List Drive) (p : ℕ) (d : Drive) (x : NetValue) → p < length ds → times p x ≡ 0 → net_counts (set ds p d) x ≡ net_counts ds x
off_net ds p d x h none =
    let same : (t : Drive → Bool) → count_by t (pull_drive x.pull ∷ map (drive_at (set ds p d)) x.pins) ≡ count_by t (pull_drive x.pull ∷ map (drive_at ds) x.pins) =
    λ t. omega (arith, net_put t ds p d x h, ap (λ (m : ℕ). m * one (t (drive_at ds p))) none, ap (λ (m : ℕ). m * one (t d)) none) in
    λ i. record { strong_zeros = same (is_strong false) i; strong_ones = same (is_strong true) i; weak_zeros = same (is_weak false) i; weak_ones = same (is_weak true) i }

-- the net of the pin
pub on_net : (ds : List Drive) (p : ℕ) (d : Drive) (x : NetValue) → p < length ds → times p x ≡ 1 → Replaces (net_counts ds x) (net_counts (set ds p d) x) (drive_at ds p) d
on_net ds p d x h once =
    let moves : (t : Drive → Bool) → count_by t (pull_drive x.pull ∷ map (drive_at (set ds p d)) x.pins) + one (t (drive_at ds p)) ≡ count_by t (pull_drive x.pull ∷ map (drive_at ds) x.pins) + one (t d) =
    λ t. omega (arith, net_put t ds p d x h, ap (λ (m : ℕ). m * one (t (drive_at ds p))) once, ap (λ (m : ℕ). m * one (t d)) once) in
    record { strong_zeros = moves (is_strong false); strong_ones = moves (is_strong true); weak_zeros = moves (is_weak false); weak_ones = moves (is_weak true) }

pub same_moves : (c a b : Counts) (old new : Drive) → Replaces c a old new → Replaces c b old new → a ≡ b
same_moves c a b old new x y =
    let z : a.strong_zeros ≡ b.strong_zeros = omega (arith, x.strong_zeros, y.strong_zeros) in
    let o : a.strong_ones ≡ b.strong_ones = omega (arith, x.strong_ones, y.strong_ones) in
    let v : a.weak_zeros ≡ b.weak_zeros = omega (arith, x.weak_zeros, y.weak_zeros) in
    let w : a.weak_ones ≡ b.weak_ones = omega (arith, x.weak_ones, y.weak_ones) in
    λ i. record { strong_zeros = z i; strong_ones = o i; weak_zeros = v i; weak_ones = w i }

pub four_same : (a b : Counts) → four a ≡ four b → a ≡ b
four_same a b e =
    let z : a.strong_zeros ≡ b.strong_zeros = cc in
    let o : a.strong_ones ≡ b.strong_ones = cc in
    let v : a.weak_zeros ≡ b.weak_zeros = cc in
    let w : a.weak_ones ≡ b.weak_ones = cc in
    λ i. record { strong_zeros = z i; strong_ones = o i; weak_zeros = v i; weak_ones = w i }

-- a net that a pin is not on shows what it showed
drives_off : (ds : List Drive) (p : ℕ) (d : Drive) (pins : List ℕ) → p < length ds → occ p pins ≡ 0 → map (drive_at (set ds p d)) pins ≡ map (drive_at ds) pins
drives_off ds p d [] h none = refl
drives_off ds p d (q ∷ pins) h none =
    let many = count-cons (λ (k : ℕ). k == p) q pins in
    ⊎_elim
    (λ (same : q ≡ p). absurd (omega (arith, none, many, ap (λ (b : Bool). one b + occ p pins) (eq_true q p same))))
    (λ apart.
    let kept : drive_at (set ds p d) q ≡ drive_at ds q = driven (set ds p d) q ∙ get_or-set_other ds p q d Nothing apart ∙ sym (driven ds q) in
    let later = drives_off ds p d pins h (omega (arith, none, many)) in
    ap (λ (x : Drive). x ∷ map (drive_at (set ds p d)) pins) kept ∙ ap (λ (xs : List Drive). drive_at ds q ∷ xs) later)
    (cases_eq q p)

pub level_off : (ds : List Drive) (p : ℕ) (d : Drive) (x : NetValue) → p < length ds → times p x ≡ 0 → level (set ds p d) x ≡ level ds x
level_off ds p d x h none = ap (λ (xs : List Drive). shown x.rule (pull_drive x.pull) xs) (drives_off ds p d x.pins h none)

-- the pin's old drive is counted
pub has_old : (ds : List Drive) (p : ℕ) (x : NetValue) → p < length ds → times p x ≡ 1 → Has (drive_at ds p) (net_counts ds x)
has_old ds p x h once =
    let m = on_net ds p Nothing x h once in
    record { strong_zeros = omega (arith, m.strong_zeros); strong_ones = omega (arith, m.strong_ones); weak_zeros = omega (arith, m.weak_zeros); weak_ones = omega (arith, m.weak_ones) }

pub few : (ds : List Drive) (x : NetValue) → length x.pins < 2 ^ 60 → IsFew (net_counts ds x)
few ds x h =
    let all = pull_drive x.pull ∷ map (drive_at ds) x.pins in
    let long : length all ≡ 1 + length x.pins = omega (arith, length-map x.pins (drive_at ds)) in
    let small : (t : Drive → Bool) → count_by t all ≤ 2 ^ 60 = λ t. omega (arith, count_by-le-length t all, long) in
    record { strong_zeros = small (is_strong false); strong_ones = small (is_strong true); weak_zeros = small (is_weak false); weak_ones = small (is_weak true) }

-- ---- the nets

abbrev pub nobody : NetValue
nobody = record { pull = Free; rule = Counted; pins = [] }

pub past_end : (m len : ℕ) → (if nat_lt m len then Some m else None) ≡ None → len ≤ m
past_end m len none = ⊎_elim
    (λ less.
    let t : nat_lt m len ≡ true = grind (arith, nat_tests) in
    absurd (impossible (sym (rw t at none))))
    (λ past. past)
    (cases_lt m len)
  where
    impossible : None ≡ Some m → ⊥
    impossible e = cc

not_true : (b : Bool) → not b ≡ true → b ≡ false
not_true true e = cc
not_true false e = refl

pub none_of : (p : ℕ) (pins : List ℕ) → list_any (λ q. q == p) pins ≡ false → occ p pins ≡ 0
none_of p [] e = refl
none_of p (q ∷ pins) e = count-cons (λ (k : ℕ). k == p) q pins ∙ both (q == p) (occ p pins) (list_any (λ k. k == p) pins) e (none_of p pins)
  where
    both : (b : Bool) (n : ℕ) (r : Bool) → (b || r) ≡ false → (r ≡ false → n ≡ 0) → one b + n ≡ 0
    both true n r e h = cc
    both false n r e h = omega (arith, h e)

pub some_of : (p : ℕ) (pins : List ℕ) → list_any (λ q. q == p) pins ≡ true → 0 < occ p pins
some_of p [] e = cc
some_of p (q ∷ pins) e =
    let is = count-cons (λ (k : ℕ). k == p) q pins in
    omega (arith, is, both (q == p) (occ p pins) (list_any (λ k. k == p) pins) e (some_of p pins))
  where
    both : (b : Bool) (n : ℕ) (r : Bool) → (b || r) ≡ true → (r ≡ true → 0 < n) → 0 < one b + n
    both true n r e h = omega arith
    both false n r e h = omega (arith, h e)

pub on_none : (p : ℕ) (nets : List NetValue) → position (has_pin p) nets ≡ None → (n : ℕ) → n < length nets → times p (get_or nets n nobody) ≡ 0
on_none p nets none n h =
    let past : length nets ≤ position_or_len (has_pin p) nets = past_end (position_or_len (has_pin p) nets) (length nets) none in
    none_of p (get_or nets n nobody).pins (not_true (has_pin p (get_or nets n nobody)) (prefix_len_passes (λ x. not (has_pin p x)) nets n nobody (omega arith)))

there : (nets : List NetValue) (n : ℕ) → n < length nets → slice_get nets n ≡ Some (get_or nets n nobody)
there nets n h = slice_get-get_or nets n nobody h

pub record OnNet (p : ℕ) (nets : List NetValue) (m : ℕ) : Type 0 where
  pub inside : m < length nets
  pub once : times p (get_or nets m nobody) ≡ 1
  pub others : (n : ℕ) → n ≢ m → n < length nets → times p (get_or nets n nobody) ≡ 0

pub on_some : (p : ℕ) (nets : List NetValue) (m : ℕ) → IsOnce nets → position (has_pin p) nets ≡ Some m → OnNet p nets m
on_some p nets m once is =
    let found = position-Some (has_pin p) nets m nobody is in
    let at = there nets m found.0 in
    let some : 0 < times p (get_or nets m nobody) = some_of p (get_or nets m nobody).pins found.1 in
    let most : times p (get_or nets m nobody) ≤ 1 = once.alone p m (get_or nets m nobody) at in
    record {
      inside = found.0;
      once = omega arith;
      others = λ n apart h. once.apart p m n (get_or nets m nobody) (get_or nets n nobody) (λ e. apart (sym e)) at (there nets n h) some;
    }

same_map : {X : Type 0} (f g : NetValue → X) (d : X) (nets : List NetValue) → ((n : ℕ) → n < length nets → f (get_or nets n nobody) ≡ g (get_or nets n nobody)) → map f nets ≡ map g nets
same_map f g d nets each =
    fill_by_all (λ n. g (get_or nets n nobody)) (map f nets) (length nets) d (length-map nets f) (λ n h. get_or-map f nets n nobody d h ∙ each n h)
    ∙ sym (fill_by_all (λ n. g (get_or nets n nobody)) (map g nets) (length nets) d (length-map nets g) (λ n h. get_or-map g nets n nobody d h))

abbrev pub kept : List Drive → List NetValue → List (List ℕ)
kept ds nets = map (λ x. four (net_counts ds x)) nets

pub kept_off : (ds : List Drive) (p : ℕ) (d : Drive) (nets : List NetValue) → p < length ds → position (has_pin p) nets ≡ None → kept ds nets ≡ kept (set ds p d) nets
kept_off ds p d nets h none =
    same_map (λ x. four (net_counts ds x)) (λ x. four (net_counts (set ds p d) x)) [] nets
    (λ n k. ap four (sym (off_net ds p d (get_or nets n nobody) h (on_none p nets none n k))))

-- what ports see of each net
abbrev pub seen : List Drive → List NetValue → List Bool
seen ds nets = map (λ x. reads (level ds x)) nets

pub seen_off : (ds : List Drive) (p : ℕ) (d : Drive) (nets : List NetValue) → p < length ds → position (has_pin p) nets ≡ None → seen ds nets ≡ seen (set ds p d) nets
seen_off ds p d nets h none =
    same_map (λ x. reads (level ds x)) (λ x. reads (level (set ds p d) x)) false nets
    (λ n k. ap reads (sym (level_off ds p d (get_or nets n nobody) h (on_none p nets none n k))))

-- a net among some that are all counted
pub counted_there : (ds : List Drive) (nets : List NetValue) (m : ℕ) → list_all (λ x. is_counted x.rule) nets ≡ true → m < length nets
    → counted_level ds (get_or nets m nobody) ≡ level ds (get_or nets m nobody)
counted_there ds nets m all h =
    counted_level_is ds (get_or nets m nobody)
    (All-get_or (λ y. is_counted y.rule ≡ true) nets m nobody h (AllPass-from_list_all (λ y. is_counted y.rule) nets all))

pub levels_off : (ds : List Drive) (p : ℕ) (d : Drive) (nets : List NetValue) → p < length ds → position (has_pin p) nets ≡ None → map (level ds) nets ≡ map (level (set ds p d)) nets
levels_off ds p d nets h none =
    same_map (level ds) (level (set ds p d)) Float nets (λ n k. sym (level_off ds p d (get_or nets n nobody) h (on_none p nets none n k)))

module _ (ds : List Drive) (p : ℕ) (d : Drive) (nets : List NetValue) (m : ℕ) (h : p < length ds) (on : OnNet p nets m) where
  abbrev net : NetValue
  net = get_or nets m nobody

  abbrev new : List Drive
  new = set ds p d

  pub counted : (after : Counts) → Replaces (net_counts ds net) after (drive_at ds p) d → after ≡ net_counts new net
  counted after is = same_moves (net_counts ds net) after (net_counts new net) (drive_at ds p) d is (on_net ds p d net h on.once)

  pub kept_on : (after : Counts) → Replaces (net_counts ds net) after (drive_at ds p) d → set (kept ds nets) m (four after) ≡ kept new nets
  kept_on after is =
      let f : ℕ → List ℕ = λ n. four (net_counts new (get_or nets n nobody)) in
      let old = kept ds nets in
      let long : length old ≡ length nets = length-map nets (λ x. four (net_counts ds x)) in
      fill_by_all f (set old m (four after)) (length nets) [] (length-set old m (four after) ∙ long)
      (λ n k. ⊎_elim
      (λ (e : n ≡ m).
      ap (λ (j : ℕ). get_or (set old m (four after)) j []) e ∙ get_or-set_same old m (four after) [] (omega (arith, long, on.inside))
      ∙ ap four (counted after is) ∙ ap f (sym e))
      (λ apart.
      get_or-set_other old m n (four after) [] apart ∙ get_or-map (λ x. four (net_counts ds x)) nets n nobody [] k
      ∙ ap four (sym (off_net ds p d (get_or nets n nobody) h (on.others n apart k))))
      (cases_eq n m))
      ∙ sym (fill_by_all f (kept new nets) (length nets) [] (length-map nets (λ x. four (net_counts new x))) (λ n k. get_or-map (λ x. four (net_counts new x)) nets n nobody [] k))

  pub seen_on : (r : Bool) → r ≡ reads (level new net) → set (seen ds nets) m r ≡ seen new nets
  seen_on r is =
      let sees : ℕ → Bool = λ n. reads (level new (get_or nets n nobody)) in
      let old = seen ds nets in
      let long : length old ≡ length nets = length-map nets (λ x. reads (level ds x)) in
      fill_by_all sees (set old m r) (length nets) false (length-set old m r ∙ long)
      (λ n k. ⊎_elim
      (λ (e : n ≡ m).
      ap (λ (j : ℕ). get_or (set old m r) j false) e ∙ get_or-set_same old m r false (omega (arith, long, on.inside)) ∙ is ∙ ap sees (sym e))
      (λ apart.
      get_or-set_other old m n r false apart ∙ get_or-map (λ x. reads (level ds x)) nets n nobody false k
      ∙ ap reads (sym (level_off ds p d (get_or nets n nobody) h (on.others n apart k))))
      (cases_eq n m))
      ∙ sym (fill_by_all sees (seen new nets) (length nets) false (length-map nets (λ x. reads (level new x))) (λ n k. get_or-map (λ x. reads (level new x)) nets n nobody false k))

  pub levels_same : level ds net ≡ level new net → map (level ds) nets ≡ map (level new) nets
  levels_same e =
      same_map (level ds) (level new) Float nets
      (λ n k. ⊎_elim
      (λ (at : n ≡ m). ap (λ (j : ℕ). level ds (get_or nets j nobody)) at ∙ e ∙ ap (λ (j : ℕ). level new (get_or nets j nobody)) (sym at))
      (λ apart. sym (level_off ds p d (get_or nets n nobody) h (on.others n apart k)))
      (cases_eq n m))

  pub level_same : map (level ds) nets ≡ map (level new) nets → level ds net ≡ level new net
  level_same e =
      sym (get_or-map (level ds) nets m nobody Float on.inside) ∙ ap (λ (ls : List Level). get_or ls m Float) e ∙ get_or-map (level new) nets m nobody Float on.inside

-- ---- what is read of the lists

pub pin_at : (net_of : List (Option ℕ)) (nets : List NetValue) (pin : ℕ) (o r : Option ℕ) → Placed net_of nets → pin < length net_of → o ≡ get_or net_of pin o → o ≡ r → position (has_pin pin) nets ≡ r
pin_at net_of nets pin o r placed h is e = sym (placed.found pin o (slice_get-get_or net_of pin o h ∙ ap Some (sym is))) ∙ e

pub old_is : (ds : List Drive) (pin : ℕ) (old : Drive) → pin < length ds → old ≡ get_or ds pin old → old ≡ drive_at ds pin
old_is ds pin old h is = is ∙ sym (ap (λ o. unwrap_or o Nothing) (slice_get-get_or ds pin old h))

pub before_is : (ds : List Drive) (nets : List NetValue) (counts : List (List ℕ)) (m : ℕ) (r : List ℕ) (before : Counts) → counts ≡ kept ds nets → m < length nets → r ≡ get_or counts m r → four before ≡ r
    → before ≡ net_counts ds (get_or nets m nobody)
before_is ds nets counts m r before are h is named =
    four_same before (net_counts ds (get_or nets m nobody))
    (named ∙ is ∙ ap (λ (cs : List (List ℕ)). get_or cs m r) are ∙ get_or-map (λ x. four (net_counts ds x)) nets m nobody r h)

pub shown_at : (ds : List Drive) (nets : List NetValue) (m : ℕ) (r : Level) → m < length nets → option_map (level ds) (slice_get nets m) ≡ Some r → r ≡ level ds (get_or nets m nobody)
shown_at ds nets m r h is = same (sym is ∙ ap (option_map (level ds)) (there nets m h))
  where
    same : {x y : Level} → Some x ≡ Some y → x ≡ y
    same e = cc

pub seen_at : (ds : List Drive) (nets : List NetValue) (sights : List Bool) (m : ℕ) (r : Bool) → sights ≡ seen ds nets → m < length nets
    → r ≡ get_or sights m r → option_map (λ x. reads (level ds x)) (slice_get nets m) ≡ Some r
seen_at ds nets sights m r are h is =
    ap (option_map (λ y. reads (level ds y))) (there nets m h)
    ∙ ap Some (sym (is ∙ ap (λ (bs : List Bool). get_or bs m r) are ∙ get_or-map (λ y. reads (level ds y)) nets m nobody r h))

-- ---- the numbers of a net where they stand

pub row_is : (ds : List Drive) (nets : List NetValue) (counts : List (List ℕ)) (m : ℕ) (r : List ℕ) → counts ≡ kept ds nets → m < length nets → r ≡ get_or counts m r → r ≡ four (net_counts ds (get_or nets m nobody))
row_is ds nets counts m r are h is = is ∙ ap (λ (cs : List (List ℕ)). get_or cs m r) are ∙ get_or-map (λ x. four (net_counts ds x)) nets m nobody r h

pub named_is : (r : List ℕ) (c : Counts) → r ≡ four c → numbers r ≡ c
named_is r c e = ap numbers e

pub is_row : (r : List ℕ) (c : Counts) → r ≡ four c → IsRow r
is_row r c e = record { four = e ∙ sym (ap four (named_is r c e)) }

pub has_before : (ds : List Drive) (pin : ℕ) (x : NetValue) (old : Drive) (before : Counts) → pin < length ds → times pin x ≡ 1 → old ≡ drive_at ds pin → before ≡ net_counts ds x → Has old before
has_before ds pin x old before h once is same =
    subst (λ (d : Drive). Has d before) (sym is) (subst (λ (c : Counts). Has (drive_at ds pin) c) (sym same) (has_old ds pin x h once))

pub few_before : (ds : List Drive) (nets : List NetValue) (m : ℕ) (before : Counts) → AreShort nets → m < length nets → before ≡ net_counts ds (get_or nets m nobody) → IsFew before
few_before ds nets m before short h same =
    subst IsFew (sym same) (few ds (get_or nets m nobody) (short.each m (get_or nets m nobody) (there nets m h)))

pub moved_as : (before after : Counts) (c : Counts) (old d new : Drive) → before ≡ c → old ≡ d → Replaces before after old new → Replaces c after d new
moved_as before after c old d new same is move =
    subst (λ (x : Drive). Replaces c after x new) is (subst (λ (x : Counts). Replaces x after old new) same move)
