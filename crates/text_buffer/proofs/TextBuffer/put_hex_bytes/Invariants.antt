use Rattle.std.proofs.Common.{◌≡◌, [], ◌∷◌, ◌++◌, drop}
use Rattle.std.specs.List.{flat_map}
use Rattle.hex.specs.Hex.{encode_upper}
use Rattle.text_buffer.proofs.TextBuffer.put_hex_bytes.Given as goal

-- the text so far and the digits of the bytes that are left
abbrev pub invariant-loop-byte : goal.invariant-loop-byte
invariant-loop-byte l =
    l.self ++ flat_map (λ byte. encode_upper (byte ∷ [])) (drop l.byte-index l.bytes)
    ≡ l.initial.self ++ flat_map (λ byte. encode_upper (byte ∷ [])) l.bytes
