-- The numbers in a packet's header, byte by byte.
use Rattle.std.proofs.Common.{◌≡◌, ℕ, ◌+◌, ◌<◌, List, [], ◌∷◌, take, drop, get_or, ◌∙◌, lit<}
use Rattle.std.specs.Int.{from_be_bytes, w32, w64}
use Rattle.std.proofs.lemmas.List.{get_or-drop, get_or-take}

byte-at : (p : List ℕ) (a b i : ℕ) → i < b → get_or (take b (drop a p)) i 0 ≡ get_or p (a + i) 0
byte-at p a b i less = get_or-take b (drop a p) i 0 less ∙ get_or-drop a p i 0

pub zxid_bytes : (p : List ℕ) (b0 b1 b2 b3 b4 b5 b6 b7 : ℕ)
    → b0 ≡ get_or p 8 0 → b1 ≡ get_or p 9 0 → b2 ≡ get_or p 10 0 → b3 ≡ get_or p 11 0 → b4 ≡ get_or p 12 0 → b5 ≡ get_or p 13 0 → b6 ≡ get_or p 14 0 → b7 ≡ get_or p 15 0
    → from_be_bytes w64 (b0 ∷ b1 ∷ b2 ∷ b3 ∷ b4 ∷ b5 ∷ b6 ∷ b7 ∷ []) ≡ from_be_bytes w64 (take 8 (drop 8 p))
zxid_bytes p b0 b1 b2 b3 b4 b5 b6 b7 h0 h1 h2 h3 h4 h5 h6 h7 =
    let e0 = byte-at p 8 8 0 (lit< tt) in
    let e1 = byte-at p 8 8 1 (lit< tt) in
    let e2 = byte-at p 8 8 2 (lit< tt) in
    let e3 = byte-at p 8 8 3 (lit< tt) in
    let e4 = byte-at p 8 8 4 (lit< tt) in
    let e5 = byte-at p 8 8 5 (lit< tt) in
    let e6 = byte-at p 8 8 6 (lit< tt) in
    let e7 = byte-at p 8 8 7 (lit< tt) in
    cc

pub code_bytes : (p : List ℕ) (b0 b1 b2 b3 : ℕ)
    → b0 ≡ get_or p 16 0 → b1 ≡ get_or p 17 0 → b2 ≡ get_or p 18 0 → b3 ≡ get_or p 19 0 → from_be_bytes w32 (b0 ∷ b1 ∷ b2 ∷ b3 ∷ []) ≡ from_be_bytes w32 (take 4 (drop 16 p))
code_bytes p b0 b1 b2 b3 h0 h1 h2 h3 =
    let e0 = byte-at p 16 4 0 (lit< tt) in
    let e1 = byte-at p 16 4 1 (lit< tt) in
    let e2 = byte-at p 16 4 2 (lit< tt) in
    let e3 = byte-at p 16 4 3 (lit< tt) in
    cc
