use Rattle.std.proofs.Common.{◌≡◌, drop, map, string_bytes}
use Rattle.apf_matching.specs.Matches.{allows_path}
use Rattle.apf_matching.proofs.texts.allows_path.Given as goal

abbrev pub invariant-loop-url : goal.invariant-loop-url
invariant-loop-url l =
    allows_path (map string_bytes l.urls) l.path ≡ allows_path (map string_bytes (drop l.url-index l.urls)) l.path
