-- What the code shows of the header's numbers, and that they are those that a formatting was told.
-- Assumes nothing.
use Rattle.std.proofs.Common.{◌≡◌, ℕ, Bool, true, false, List, ◌∷◌, ◌++◌, get_or, sym, refl, ap, ◌∙◌}
use Rattle.spec.specs.Places.{is_power, chunks_in}
use Rattle.spec.specs.Header.{header_right, header_power, power_bit, power_field, header_map, header_tail}
use Rattle.spec.specs.declared.Size.{Size}
use Rattle.spec.specs.declared.Size.TheVariants as S
use Rattle.spec.specs.Basics.{Given}
use Rattle.std.specs.declared.option.Option.TheVariants as G
use Rattle.places.specs.Sizes.{power_of, size_by}
use Rattle.theory_crash.proofs.Format.{header_made}
use Rattle.inspect.specs.Numbers.{size_said, header_taken, station_by, centre_by, station_of, centre_of}

-- ## The header

module _ (bytes : ℕ) (ws : List ℕ) (power : ℕ) (said : power ≡ header_power ws) (there : Bool) (is : there ≡ is_power power) where
  pub taken_not : there ≡ false → false ≡ header_taken bytes ws
  unfolding header_taken
  taken_not h = let e : is_power (header_power ws) ≡ false = ap is_power (sym said) ∙ sym is ∙ h in sym (rw e)

  pub taken-so : (size : Size) (count : ℕ) (right : Bool) → there ≡ true → size ≡ size_by power → count ≡ chunks_in (power_of size) bytes → right ≡ header_right count ws → right ≡ header_taken bytes ws
  unfolding header_taken
  taken-so size count right h es ec er =
      let e : is_power (header_power ws) ≡ true = ap is_power (sym said) ∙ sym is ∙ h in
      let s : size ≡ size_said ws = es ∙ ap size_by said in
      let c : count ≡ chunks_in (power_of (size_said ws)) bytes = ec ∙ ap (λ (x : Size). chunks_in (power_of x) bytes) s in
      er ∙ ap (λ (x : ℕ). header_right x ws) c ∙ sym (rw e)

-- ## The numbers

module _ (bytes : ℕ) (ws : List ℕ) (right : Bool) (is : right ≡ header_taken bytes ws) where
  pub station-wrong : right ≡ false → G.None ≡ station_of bytes ws
  unfolding station_of
  station-wrong h = sym (rw (← is, h))

  pub centre-wrong : right ≡ false → G.None ≡ centre_of bytes ws
  unfolding centre_of
  centre-wrong h = sym (rw (← is, h))

  module _ (h : right ≡ true) (map first : ℕ) (is-map : map ≡ get_or ws 0 0) where
    pub station-right : first ≡ get_or ws 2 0 → (r : Given) → r ≡ station_by map first → r ≡ station_of bytes ws
    unfolding station_of
    station-right is-first r e = e ∙ sym (rw (← is, h, ← is-map, ← is-first))

  module _ (h : right ≡ true) (map first second : ℕ) (is-map : map ≡ get_or ws 0 0) where
    pub centre-right : first ≡ get_or ws 2 0 → second ≡ get_or ws 3 0 → (r : Given) → r ≡ centre_by map first second → r ≡ centre_of bytes ws
    unfolding centre_of
    centre-right is-first is-second r e = e ∙ sym (rw (← is, h, ← is-map, ← is-first, ← is-second))

-- ## What a formatting writes

-- the words of an image that begins with the header of so many chunks
abbrev begun : (size : Size) (bytes : ℕ) (station centre : Given) (rest : List ℕ) → List ℕ
begun size bytes station centre rest = header_map (power_of size) station centre ∷ (header_tail (power_of size) (chunks_in (power_of size) bytes) station centre ++ rest)

begun-taken : (size : Size) (bytes : ℕ) (station centre : Given) (rest : List ℕ) → header_taken bytes (begun size bytes station centre rest) ≡ true
unfolding header_taken
begun-taken S.Small bytes station centre rest =
    let h = header_made (power_of S.Small) (chunks_in (power_of S.Small) bytes) station centre rest in rw h.1 h.0
begun-taken S.Large bytes station centre rest =
    let h = header_made (power_of S.Large) (chunks_in (power_of S.Large) bytes) station centre rest in rw h.1 h.0

pub station-written : (size : Size) (bytes : ℕ) (station centre : Given) (rest : List ℕ) → station_of bytes (begun size bytes station centre rest) ≡ station
unfolding station_of header_tail power_bit power_field
station-written size bytes station centre rest = rw (begun-taken size bytes station centre rest) (go size station centre)
  where
    go : (z : Size) (a b : Given) → station_by (get_or (begun z bytes a b rest) 0 0) (get_or (begun z bytes a b rest) 2 0) ≡ a
    go S.Small (G.Some s) (G.Some c) = refl
    go S.Small (G.Some s) G.None = refl
    go S.Small G.None (G.Some c) = refl
    go S.Small G.None G.None = refl
    go S.Large (G.Some s) (G.Some c) = refl
    go S.Large (G.Some s) G.None = refl
    go S.Large G.None (G.Some c) = refl
    go S.Large G.None G.None = refl

pub centre-written : (size : Size) (bytes : ℕ) (station centre : Given) (rest : List ℕ) → centre_of bytes (begun size bytes station centre rest) ≡ centre
unfolding centre_of header_tail power_bit power_field
centre-written size bytes station centre rest = rw (begun-taken size bytes station centre rest) (go size station centre)
  where
    go : (z : Size) (a b : Given) → centre_by (get_or (begun z bytes a b rest) 0 0) (get_or (begun z bytes a b rest) 2 0) (get_or (begun z bytes a b rest) 3 0) ≡ b
    go S.Small (G.Some s) (G.Some c) = refl
    go S.Small (G.Some s) G.None = refl
    go S.Small G.None (G.Some c) = refl
    go S.Small G.None G.None = refl
    go S.Large (G.Some s) (G.Some c) = refl
    go S.Large (G.Some s) G.None = refl
    go S.Large G.None (G.Some c) = refl
    go S.Large G.None G.None = refl
