-- 01, "The filter record", as a caller in another language holds it: family 0 is IPv4 and any other number IPv6, action 0 is deny and any other number permit.
-- Assumes nothing.
use Rattle.filter.specs.Filter.{family_number, action_number, family_of, action_of}
use Rattle.filter.specs.declared.FilterRecord.{FilterRecord}
use Rattle.held.specs.declared.Fields.{Fields}

-- the filter record that is held
unfoldable pub record_of : Fields → FilterRecord
record_of f = record {
  family = family_of f.family;
  action = action_of f.action;
  length = f.length;
  longest = f.longest;
  member = f.member;
  serial = f.serial;
  prefix = f.prefix;
}

-- how a filter record is written
unfoldable pub fields_of : FilterRecord → Fields
fields_of r = record {
  family = family_number r.family;
  action = action_number r.action;
  length = r.length;
  longest = r.longest;
  member = r.member;
  serial = r.serial;
  prefix = r.prefix;
}
