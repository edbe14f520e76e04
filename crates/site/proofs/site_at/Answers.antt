-- `site::site_at` meets its contract: it asks for each part in turn, and puts them together as the definition does.
use Rattle.std.proofs.Common.{◌∙◌, arith}
use Rattle.site.proofs.Assembly.{site_undefined, site_cut, site_whole}
use Rattle.site.proofs.site_at.Goals as goal
use Rattle.site.proofs.site_at.Goals.{then-len-eq0-via-then-len-eq0, then-len-eq0-via-else-len-eq0+then-image-a}

pub returns-then-len-eq0 : goal.returns-then-len-eq0
returns-then-len-eq0 c =
    c.broken_site.ensures ∙ elim c.then-len-eq0.branch [
      | then-len-eq0-via-then-len-eq0 w ↦ site_undefined _ _ _ _ _ c.byte-opcode.ensures c.decode-decoded.ensures c.len-len.ensures w.if-len-eq0.true
      | then-len-eq0-via-else-len-eq0+then-image-a w ↦ site_cut _ _ _ _ _ c.byte-opcode.ensures c.decode-decoded.ensures c.len-len.ensures (omega arith)
    ]

pub returns : goal.returns
returns c =
    c.whole_site.ensures ∙ site_whole _ _ _ _ _ c.byte-opcode.ensures c.decode-decoded.ensures c.len-len.ensures c.if-len-eq0.false (omega arith)
    c.operand-operand.ensures c.next-next.ensures
